-- The numbers on the lines of a stage, from a line on, and the place of each in a buffer. Assumes nothing.
use Prim.Native.Nat.{ℕ, zero, suc, ◌+◌, ◌-◌, ◌*◌, ◌<◌, ◌≤◌}
use mathlib.Core.Path.{◌≡◌, refl, sym, subst}
use mathlib.Core.List.{List, [], ◌∷◌, ◌++◌}
use native.Mathlib.Nat.{mul-zero, mul-suc}
use native.Mathlib.Numerals.{add-one}
use native.Mathlib.Omega.{arith}
use Rattle.std.proofs.Math.Nat.{mul-le-mul_left}
use lib.ListN.{length, take, drop, set, length-append}
use lib.Seq.{drop-drop}
use Rattle.numbers.specs.Buffers.{laid}
use Rattle.numbers.proofs.Laws.{laid_cons}
use Rattle.texts.specs.Fields.{lines, values_in}
use Rattle.sheet.specs.Lines.{field_count, width, values}
use Rattle.sheet.specs.Reading.{value, numbers, plain_count}
use Rattle.sheet.specs.declared.line.Line.{Line}
use Rattle.sheet.specs.declared.line.Line.TheVariants.{Page}
use Rattle.sheet.proofs.LineLaws.{lines_step, values_count}
use Rattle.sheet_read.proofs.Leads.{one_and, lead_rest}

-- ---- the numbers of a line

module _ (out vs : List ℕ) (at : ℕ) where
  pub number_turn : (i v : ℕ) → i < length vs → at + i < length out → (rest : List ℕ) → drop i vs ≡ v ∷ rest → laid out (at + i) (drop i vs) ≡ laid (set out (at + i) v) (at + (i + 1)) rest
  number_turn i v less room rest e =
      let next : at + i + 1 ≡ at + (i + 1) = omega arith in
      rw (e, laid_cons out (at + i) v rest room, next)

-- ---- from the k-th of n lines on

abbrev pub numbers_from : Line → List ℕ → ℕ → ℕ → List ℕ
numbers_from kind u n k = numbers kind (take (n - k) (lines (drop (width kind * k) u)))

module _ (kind : Line) (u : List ℕ) (n : ℕ) where
  pub from_start : numbers_from kind u n 0 ≡ numbers kind (take n (lines u))
  from_start = let all : n - 0 ≡ n = omega arith in rw (mul-zero, all)

  numbers_suc : (k : ℕ) (v : List ℕ) → suc k ≤ plain_count kind (lines v) → numbers kind (take (suc k) (lines v)) ≡ values kind (take (width kind) v) ++ numbers kind (take k (lines (drop (width kind) v)))
  unfolding numbers
  numbers_suc k v h = rw (lines_step kind v (one_and kind k v h).0)

  pub from_turn : (k : ℕ) → k < n → n ≤ plain_count kind (lines u)
      → numbers_from kind u n k ≡ values kind (take (width kind) (drop (width kind * k) u)) ++ numbers_from kind u n (k + 1)
  from_turn k less h =
      let one : n - k ≡ suc (n - (k + 1)) = omega arith in
      let place : width kind * k + width kind ≡ width kind * (k + 1) = rw (add-one k) (rw mul-suc (omega arith)) in
      rw (one, numbers_suc (n - (k + 1)) (drop (width kind * k) u) (lead_rest kind k (suc (n - (k + 1))) u (omega arith)), drop-drop (width kind) (width kind * k) u, place)

  pub from_end : (k : ℕ) → n ≤ k → numbers_from kind u n k ≡ []
  unfolding numbers
  from_end k end = let none : n - k ≡ 0 = omega arith in rw none

-- how many numbers stand on n lines
pub numbers_long : (kind : Line) (n : ℕ) (u : List ℕ) → n ≤ plain_count kind (lines u) → length (numbers kind (take n (lines u))) ≡ field_count kind * n
unfolding numbers
numbers_long kind zero u h = rw mul-zero
numbers_long kind (suc n) u h =
    let both = one_and kind n u h in
    rw (lines_step kind u both.0, length-append, values_count, mul-suc, numbers_long kind n (drop (width kind) u) both.1) (omega arith)

-- a line's part of a buffer that has room for n of them
pub part_room : (c k n : ℕ) → k < n → c * k + c ≤ c * n
part_room c k n less = let one : c * (k + 1) ≡ c * k + c = rw (add-one k) (rw mul-suc (omega arith)) in omega (arith, mul-le-mul_left {m = k + 1} {n = n} c (omega arith))

-- a page line's entry, and those on the lines behind it
one_value : (l : List ℕ) → values Page l ≡ value Page 0 l ∷ []
unfolding values values_in
one_value l = refl

pub entry_turn : (kind : Line) → kind ≡ Page → (u : List ℕ) (n k entry : ℕ) → k < n → n ≤ plain_count kind (lines u)
    → entry ≡ value kind 0 (take (width kind) (drop (width kind * k) u)) → numbers_from kind u n k ≡ entry ∷ numbers_from kind u n (k + 1)
entry_turn kind page u n k entry less h entry_is =
    subst (λ (kind : Line). n ≤ plain_count kind (lines u) → entry ≡ value kind 0 (take (width kind) (drop (width kind * k) u)) → numbers_from kind u n k ≡ entry ∷ numbers_from kind u n (k + 1))
    (sym page) (λ h e. rw (from_turn Page u n k less h, one_value, e)) h entry_is
