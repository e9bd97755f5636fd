-- Four bytes and eight, as the machine loads and stores them; and whether they lie within a list. Assumes nothing.
use Prim.Native.Nat.{ℕ, zero, suc, ◌+◌, ◌/◌, ◌%◌, ◌-◌, ◌^◌, ◌<◌, ◌≤◌}
use mathlib.Core.Path.{◌≡◌, refl, sym, ap, ◌∙◌}
use mathlib.Core.Bool.{Bool, true, false}
use mathlib.Core.List.{List}
use native.Mathlib.Nat.{pow-suc}
use native.Mathlib.Omega.{arith}
use lib.ListN.{length, get_or, take, drop, length-drop}
use lib.Seq.{get_or-drop, get_or-take, take_all}
use lib.Dec.{leb}
use borrow.Author.Tests.{leb-true, leb-false, le-leb, lt-leb}
use Rattle.numbers.specs.Numbers.{byte_count, inside, number_at, little_bytes, held, put_at, put_if}
use Rattle.numbers.specs.declared.size.Size.{Size}
use Rattle.numbers.specs.declared.size.Size.TheVariants.{Four, Eight}
use Rattle.std.specs.Prelude.{Some, None}
use Rattle.std.specs.Int.{w32, w64, from_le_bytes, to_le_bytes}
use Rattle.std.specs.List.{slice_range}
use Rattle.std.specs.Array.{IsFirstChunk}

-- ---- sizes

pub at_most_eight : (size : Size) → byte_count size ≤ 8
at_most_eight Four = omega arith
at_most_eight Eight = omega arith

pub at_least_four : (size : Size) → 4 ≤ byte_count size
at_least_four Four = omega arith
at_least_four Eight = omega arith

-- ---- four bytes, and eight

-- the bytes of a value: one division after the other, or one by a power of 256
pub four_little : (v : ℕ) → to_le_bytes w32 (v % 2 ^ 32) ≡ little_bytes 4 v
unfolding little_bytes
four_little v = grind arith

pub eight_little : (v : ℕ) → to_le_bytes w64 v ≡ little_bytes 8 v
unfolding little_bytes
eight_little v = grind arith

-- ---- any number of bytes

-- the number from a place on is that of what is left there
pub number_drop : (bytes : List ℕ) (at n : ℕ) → number_at (drop at bytes) 0 n ≡ number_at bytes at n
unfolding number_at
number_drop bytes at n = let same : at + 0 ≡ at = omega arith in from 0 n ∙ rw same
  where
    from : (i n : ℕ) → number_at (drop at bytes) i n ≡ number_at bytes (at + i) n
    from i zero = refl
    from i (suc n) = let next : at + suc i ≡ suc (at + i) = omega arith in rw (get_or-drop at bytes i 0, from (suc i) n, next)

-- the first bytes of what is left from a place on, read as one number
module _ (bytes : List ℕ) (at : ℕ) (rest : List ℕ) (is : rest ≡ slice_range bytes at (length bytes)) where
  rest_number : (n : ℕ) → number_at rest 0 n ≡ number_at bytes at n
  rest_number n =
      let left = length-drop at bytes in
      let all : take (length bytes - at) (drop at bytes) ≡ drop at bytes = take_all (length bytes - at) (drop at bytes) (omega arith) in
      rw (is, all) (number_drop bytes at n)

  pub four_bytes : (four : List ℕ) → IsFirstChunk rest four 4 → from_le_bytes w32 four ≡ number_at bytes at 4
  unfolding number_at
  four_bytes four front = rw front.same (grind (arith, get_or-take)) ∙ rest_number 4

  pub eight_bytes : (eight : List ℕ) → IsFirstChunk rest eight 8 → from_le_bytes w64 eight ≡ number_at bytes at 8
  unfolding number_at
  eight_bytes eight front = rw front.same (grind (arith, get_or-take)) ∙ rest_number 8

pub number_below : (bytes : List ℕ) (at n : ℕ) → ((i : ℕ) → get_or bytes i 0 < 256) → number_at bytes at n < 256 ^ n
unfolding number_at
number_below bytes at zero small = omega arith
number_below bytes at (suc n) small =
    let byte = small at in
    let rest = number_below bytes (suc at) n small in
    rw (pow-suc 256 n) (omega arith)

pub little_length : (n v : ℕ) → length (little_bytes n v) ≡ n
unfolding little_bytes
little_length zero v = refl
little_length (suc n) v = ap suc (little_length n (v / 256))

-- ---- within a list

-- what is left behind a place, as the code has it
pub room_left : (lent at n : ℕ) → at ≤ lent → leb n (lent - at) ≡ inside lent at n
unfolding inside
room_left lent at n among = go (leb n (lent - at)) refl
  where
    go : (t : Bool) → leb n (lent - at) ≡ t → t ≡ leb (at + n) lent
    go true e = let fits = leb-true n (lent - at) e in sym (le-leb (at + n) lent (omega arith))
    go false e = let over = leb-false n (lent - at) e in sym (lt-leb (at + n) lent (omega arith))

pub ends_inside : (lent at n : ℕ) → inside lent at n ≡ true → at + n ≤ lent
unfolding inside
ends_inside lent at n e = leb-true (at + n) lent e

pub lies_inside : (lent at n : ℕ) → at + n ≤ lent → inside lent at n ≡ true
unfolding inside
lies_inside lent at n ends = le-leb (at + n) lent ends

module _ (bytes rest : List ℕ) (at : ℕ) (is : rest ≡ slice_range bytes at (length bytes)) (long : length rest + at ≡ length bytes) where
  pub held_four : (four : List ℕ) (v : ℕ) → IsFirstChunk rest four 4 → v ≡ from_le_bytes w32 four → Some v ≡ held bytes at 4
  unfolding held inside
  held_four four v front e =
      let room = front.enough in
      rw (le-leb (at + 4) (length bytes) (omega arith), e, four_bytes bytes at rest is four front)

  pub held_eight : (eight : List ℕ) (v : ℕ) → IsFirstChunk rest eight 8 → v ≡ from_le_bytes w64 eight → Some v ≡ held bytes at 8
  unfolding held inside
  held_eight eight v front e =
      let room = front.enough in
      rw (le-leb (at + 8) (length bytes) (omega arith), e, eight_bytes bytes at rest is eight front)

module _ (bytes : List ℕ) (at n : ℕ) where
  pub held_inside : inside (length bytes) at n ≡ true → held bytes at n ≡ Some (number_at bytes at n)
  unfolding held
  held_inside e = rw e

  pub held_short : length bytes < at + n → held bytes at n ≡ None
  unfolding held inside
  held_short short = rw (lt-leb (at + n) (length bytes) short)

  -- and back, of bytes that are there
  pub held_number : at + n ≤ length bytes → (v : ℕ) → held bytes at n ≡ Some v → v ≡ number_at bytes at n
  held_number ends v e = let there = held_inside (lies_inside (length bytes) at n ends) in cc

  pub held_there : at + n ≤ length bytes → held bytes at n ≡ None → ⊥
  held_there ends e =
      let there = held_inside (lies_inside (length bytes) at n ends) in
      let z : ◌≡◌ {A = ℕ} 0 1 = cc in
      omega arith

  pub put_inside : (v : ℕ) → inside (length bytes) at n ≡ true → put_if at n v bytes ≡ put_at at n v bytes
  unfolding put_if
  put_inside v e = rw e
