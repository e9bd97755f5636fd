-- A list in pieces of one width: what is left from the k-th piece on. Assumes nothing.
use Prim.Native.Nat.{ℕ, suc, ◌+◌, ◌-◌, ◌*◌, ◌<◌, ◌≤◌}
use mathlib.Core.Path.{◌≡◌, ◌∙◌, ap}
use mathlib.Core.List.{List}
use native.Mathlib.Omega.{arith}
use lib.ListN.{length, take, drop, length-drop}
use lib.Seq.{drop-drop, length-take-le}

pub one_less : (n k : ℕ) → k < n → n - k ≡ suc (n - (k + 1))
one_less n k h = omega arith

pub none_less : (n k : ℕ) → n ≤ k → n - k ≡ 0
none_less n k h = omega arith

pub later : (width k : ℕ) (xs : List ℕ) → drop width (drop (width * k) xs) ≡ drop (width * (k + 1)) xs
later width k xs = let next : width * k + width ≡ width * (k + 1) = omega arith in drop-drop width (width * k) xs ∙ ap (λ (n : ℕ). drop n xs) next

-- ---- a part, as the code lends it

pub part : (start width : ℕ) (xs : List ℕ) → take (start + width - start) (drop start xs) ≡ take width (drop start xs)
part start width xs = let all : start + width - start ≡ width = omega arith in ap (λ (n : ℕ). take n (drop start xs)) all

pub part_length : (start width : ℕ) (xs : List ℕ) → start + width ≤ length xs → length (take (start + width - start) (drop start xs)) ≡ width
part_length start width xs h = ap length (part start width xs) ∙ length-take-le width (drop start xs) (simp length-drop (omega arith))
