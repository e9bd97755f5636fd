-- Lists of small numbers, and a number and its bytes. Assumes nothing.
use Rattle.std.proofs.Common.{◌≡◌, ℕ, zero, suc, ◌+◌, ◌*◌, ◌/◌, ◌%◌, ◌^◌, ◌<◌, ◌≤◌, List, [], ◌∷◌, ◌++◌, length, take, drop, sym, refl, ap, pow-suc, arith, get_or-drop}
use Rattle.texts.specs.Digits.{Below}
use Rattle.numbers.specs.Numbers.{number_at, little_bytes}
use Rattle.numbers.proofs.Laws.{number_drop, number_below}

-- ---- every element below a bound

module _ (bound : ℕ) where
  pub below_none : 0 < bound → Below bound []
  unfolding Below
  below_none some i = some

  pub below_cons : (x : ℕ) (xs : List ℕ) → x < bound → Below bound xs → Below bound (x ∷ xs)
  unfolding Below
  below_cons x xs first rest zero = first
  below_cons x xs first rest (suc i) = rest i

  pub below_first : (x : ℕ) (xs : List ℕ) → Below bound (x ∷ xs) → x < bound
  unfolding Below
  below_first x xs h = h 0

  pub below_rest : (x : ℕ) (xs : List ℕ) → Below bound (x ∷ xs) → Below bound xs
  unfolding Below
  below_rest x xs h i = h (suc i)

  pub below_append : (xs ys : List ℕ) → Below bound xs → Below bound ys → Below bound (xs ++ ys)
  below_append [] ys h k = k
  below_append (x ∷ xs) ys h k = below_cons x (xs ++ ys) (below_first x xs h) (below_append xs ys (below_rest x xs h) k)

  pub below_drop : (n : ℕ) (xs : List ℕ) → Below bound xs → Below bound (drop n xs)
  unfolding Below
  below_drop n xs h i = rw get_or-drop (h (n + i))

  pub below_take : (n : ℕ) (xs : List ℕ) → Below bound xs → Below bound (take n xs)
  unfolding Below
  below_take zero xs h i = let first = h i in omega arith
  below_take (suc n) [] h i = h i
  below_take (suc n) (x ∷ xs) h i = below_cons x (take n xs) (h 0) (below_take n xs (λ j. h (suc j))) i

-- ---- a number and its bytes

-- the first byte, and those behind it
number_cons : (b : ℕ) (bytes : List ℕ) (n : ℕ) → number_at (b ∷ bytes) 0 (suc n) ≡ b + 256 * number_at bytes 0 n
unfolding number_at
number_cons b bytes n = ap (λ (rest : ℕ). b + 256 * rest) (sym (number_drop (b ∷ bytes) 1 n))

pub little_below : (n : ℕ) (bytes : List ℕ) → Below 256 bytes → number_at bytes 0 n < 256 ^ n
unfolding Below
little_below n bytes small = number_below bytes 0 n small

pub bytes_of_little : (n : ℕ) (bytes : List ℕ) → n ≤ length bytes → Below 256 bytes → little_bytes n (number_at bytes 0 n) ≡ take n bytes
unfolding little_bytes
bytes_of_little zero bytes long small = refl
bytes_of_little (suc n) [] long small = absurd (omega arith)
bytes_of_little (suc n) (b ∷ bytes) long small =
    let first = below_first 256 b bytes small in
    let low : (b + 256 * number_at bytes 0 n) % 256 ≡ b = omega arith in
    let high : (b + 256 * number_at bytes 0 n) / 256 ≡ number_at bytes 0 n = omega arith in
    rw (number_cons b bytes n, low, high, bytes_of_little n bytes (omega arith) (below_rest 256 b bytes small))

pub little_of_bytes : (n v : ℕ) (rest : List ℕ) → v < 256 ^ n → number_at (little_bytes n v ++ rest) 0 n ≡ v
unfolding little_bytes
little_of_bytes zero v rest small = unfold number_at in omega arith
little_of_bytes (suc n) v rest small =
    let more = rw pow-suc at small in
    rw (number_cons (v % 256) (little_bytes n (v / 256) ++ rest) n, little_of_bytes n (v / 256) rest (omega arith)) (omega arith)

pub below_little_bytes : (n v : ℕ) → Below 256 (little_bytes n v)
unfolding little_bytes
below_little_bytes zero v = below_none 256 (omega arith)
below_little_bytes (suc n) v = below_cons 256 (v % 256) (little_bytes n (v / 256)) (omega arith) (below_little_bytes n (v / 256))
