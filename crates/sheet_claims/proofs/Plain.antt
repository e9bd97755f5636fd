-- Plain lines, of any kind: printed and read back, and taken and printed again. Assumes nothing.
use Rattle.std.proofs.Common.{◌≡◌, ℕ, zero, suc, ◌+◌, ◌*◌, ◌/◌, ◌%◌, ◌^◌, Bool, true, false, cond, List, [], ◌∷◌, ◌++◌, length, take, drop, sym, refl, ap, ◌∙◌, mul-zero, mul-suc, arith, length-append, length-drop, take-append-drop, length-take-le, take_at, drop_at}
use native.Mathlib.Nat.{mul-mod_right, div-add-mod, div-eq_of_eq-mul_right}
use lib.Seq.{take-append_seam, drop-append_seam}
use Rattle.texts.specs.Digits.{Below}
use Rattle.sheet.specs.Lines.{field_count, line, is_line, values}
use Rattle.sheet.specs.Sheets.{plain_lines, all_plain}
use Rattle.sheet.specs.Reading.{next, numbers, plain_count, plain_numbers, past_plain}
use Rattle.sheet.specs.declared.line.Line.{Line}
use Rattle.sheet.proofs.LineLaws.{is_line_line, values_line, line_values, values_count, some_fields}
use Rattle.sheet_claims.proofs.Bytes.{below_take, below_drop}
use Rattle.sheet_claims.proofs.LineKinds.{no_other}

module _ (kind : Line) where
  abbrev each : ℕ
  each = field_count kind

  -- ---- how many numbers a line takes of them

  one_more : (n : ℕ) {k : ℕ} → each * suc n ≡ k → each * n + each ≡ k
  one_more n e = sym (mul-suc each n) ∙ e

  -- numbers that fill their lines
  pub filled : (ns : List ℕ) → length ns % each ≡ 0 → length ns ≡ each * (length ns / each)
  filled ns whole = let all = div-add-mod (length ns) each in omega arith

  -- ---- printed and read back

  module _ (n : ℕ) (ns : List ℕ) (long : length ns ≡ each * suc n) (small : Below (2 ^ 64) ns) where
    pub own_long : length (take each ns) ≡ each
    own_long = let room = one_more n (sym long) in length-take-le each ns (omega arith)

    pub own_small : Below (2 ^ 64) (take each ns)
    own_small = below_take (2 ^ 64) each ns small

    pub rest_long : length (drop each ns) ≡ each * n
    rest_long = let room = one_more n (sym long) in rw (length-drop each ns) (omega arith)

    pub rest_small : Below (2 ^ 64) (drop each ns)
    rest_small = below_drop (2 ^ 64) each ns small

  -- the next of n lines and others
  next_plain : (P : List ℕ → Type 0) (n : ℕ) (ns : List ℕ) (rest : List (List ℕ)) → ((vs : List ℕ) → length vs ≡ each → Below (2 ^ 64) vs → P (line kind vs)) → P (next rest)
      → length ns ≡ each * n → Below (2 ^ 64) ns → P (next (plain_lines kind n ns ++ rest))
  unfolding plain_lines
  next_plain P zero ns rest one last long small = last
  next_plain P (suc n) ns rest one last long small = one (take each ns) (own_long n ns long small) (own_small n ns long small)

  no_plain : (rest : List (List ℕ)) → is_line kind (next rest) ≡ false → plain_count kind rest ≡ 0
  unfolding plain_count
  no_plain [] other = refl
  no_plain (l ∷ rest) other = rw other

  -- all are counted, and no more, before lines of which the first is of another kind
  plain_counted : (n : ℕ) (ns : List ℕ) (rest : List (List ℕ)) → length ns ≡ each * n → Below (2 ^ 64) ns → is_line kind (next rest) ≡ false
      → plain_count kind (plain_lines kind n ns ++ rest) ≡ length (plain_lines kind n ns)
  unfolding plain_count plain_lines
  plain_counted zero ns rest long small other = no_plain rest other
  plain_counted (suc n) ns rest long small other =
      rw (is_line_line kind (take each ns) (own_long n ns long small) (own_small n ns long small))
      (ap suc (plain_counted n (drop each ns) rest (rest_long n ns long small) (rest_small n ns long small) other))

  plain_read : (n : ℕ) (ns : List ℕ) → length ns ≡ each * n → Below (2 ^ 64) ns → numbers kind (plain_lines kind n ns) ≡ ns
  unfolding plain_lines numbers
  plain_read zero [] long small = refl
  plain_read zero (v ∷ ns) long small = absurd (let none = mul-zero each in omega arith)
  plain_read (suc n) ns long small =
      rw (
        values_line kind (take each ns) (own_long n ns long small) (own_small n ns long small),
        plain_read n (drop each ns) (rest_long n ns long small) (rest_small n ns long small),
        take-append-drop each ns,
      )

  -- ---- a whole stage: numbers that fill their lines

  module _ (ns : List ℕ) (whole : length ns % each ≡ 0) (small : Below (2 ^ 64) ns) where
    -- before lines of which the first is not of another kind, the first of all is not of that kind
    pub none_next : (other : Line) (rest : List (List ℕ)) → (kind ≡ other → ⊥) → is_line other (next rest) ≡ false → is_line other (next (all_plain kind ns ++ rest)) ≡ false
    none_next other rest differ last =
        next_plain (λ l. is_line other l ≡ false) (length ns / each) ns rest (λ vs long below. no_other kind other (line kind vs) (is_line_line kind vs long below) differ) last
        (filled ns whole) small

    -- it is read back, and the lines behind it are left, where the first of them is of another kind
    pub stage_read : (rest : List (List ℕ)) → is_line kind (next rest) ≡ false → (plain_numbers kind (all_plain kind ns ++ rest) ≡ ns) × (past_plain kind (all_plain kind ns ++ rest) ≡ rest)
    stage_read rest other =
        rw (plain_counted (length ns / each) ns rest (filled ns whole) small other, take-append_seam (all_plain kind ns) rest, drop-append_seam (all_plain kind ns) rest)
        (plain_read (length ns / each) ns (filled ns whole) small, refl)

  -- ---- taken and printed again

  -- the numbers in these lines fill n lines, and print these lines
  abbrev Prints : ℕ → List (List ℕ) → Type 0
  Prints n taken = (length (numbers kind taken) ≡ each * n) × (plain_lines kind n (numbers kind taken) ≡ taken)

  counted : (ls : List (List ℕ)) → Prints (plain_count kind ls) (take (plain_count kind ls) ls)
  unfolding plain_count plain_lines numbers
  counted [] = (sym (mul-zero each), refl)
  counted (l ∷ ls) = go (is_line kind l) refl (counted ls)
    where
      go : (t : Bool) → is_line kind l ≡ t → Prints (plain_count kind ls) (take (plain_count kind ls) ls)
          → Prints (cond t (suc (plain_count kind ls)) 0) (take (cond t (suc (plain_count kind ls)) 0) (l ∷ ls))
      go true e after =
          let own = values_count kind l in
          let rest : List ℕ = numbers kind (take (plain_count kind ls) ls) in (
            rw (length-append, own, after.0, mul-suc) (omega arith),
            rw (take_at (values kind l) rest each own, drop_at (values kind l) rest each own, line_values kind l e, after.1),
          )
      go false e after = (sym (mul-zero each), refl)

  -- all lines that the stage takes
  plain_taken : (ls : List (List ℕ)) → all_plain kind (numbers kind (take (plain_count kind ls) ls)) ≡ take (plain_count kind ls) ls
  plain_taken ls =
      let n : length (numbers kind (take (plain_count kind ls) ls)) / each ≡ plain_count kind ls = div-eq_of_eq-mul_right (some_fields kind) (counted ls).0 in
      rw n (counted ls).1

  pub stage_taken : (ls : List (List ℕ)) → all_plain kind (plain_numbers kind ls) ++ past_plain kind ls ≡ ls
  stage_taken ls = rw (plain_taken ls) (take-append-drop (plain_count kind ls) ls)

  pub plain_whole : (ls : List (List ℕ)) → length (numbers kind (take (plain_count kind ls) ls)) % each ≡ 0
  plain_whole ls = rw (counted ls).0 (mul-mod_right each (plain_count kind ls))
