-- The turns of the loops: what each definition gives from a place on, in the terms of the code. Assumes nothing.
use Prim.Native.Nat.{ℕ, zero, suc, ◌+◌, ◌-◌, ◌*◌, ◌<◌, ◌≤◌}
use mathlib.Core.Path.{◌≡◌, refl, sym, ap, ◌∙◌}
use mathlib.Core.Bool.{Bool, false, true, and-true, and_assoc, ◌&&◌}
use mathlib.Core.List.{List, [], ◌∷◌, ◌++◌}
use native.Mathlib.Numerals.{add-one}
use native.Mathlib.Omega.{arith}
use lib.Dec.{eqb}
use Rattle.std.specs.List.{list_all, range_with_len}
use lib.ListN.{length, get_or, take, drop, length-drop, drop_of_length-le}
use lib.Seq.{take_all, drop-cons, drop-drop}
use Rattle.texts.specs.Digits.{tab, line_feed}
use Rattle.numbers.specs.Numbers.{inside}
use Rattle.numbers.specs.Buffers.{laid_if}
use Rattle.texts.specs.Fields.{number_form, field_forms, begins, fits_mark, line_of}
use Rattle.sheet.specs.Lines.{name, field_count, form, first, width, line, fits_line, put_line}
use Rattle.sheet.specs.declared.line.Line.{Line}
use Rattle.texts.proofs.Fields.{forms_length, line_long}
use Rattle.texts.proofs.FormLaws.{begins_append, begins_take}
use borrow.Author.Tests.{eq-eqb, ne_eqb}

-- ---- a form against a text

feed_test : (u : List ℕ) (i : ℕ) → i < length u → begins (line_feed ∷ []) (drop i u) ≡ eqb (get_or u i 0) line_feed
unfolding begins
feed_test u i more = rw (drop-cons u i 0 more, and-true)

-- What was told so far of a form, and what its marks `ms` are to tell of `cs`, is the whole; the text has room for the form.
pub record Telling (whole good : Bool) (ms cs : List ℕ) : Type 0 where
  pub told : whole ≡ (good && begins ms cs)
  pub room : length ms ≤ length cs

pub tell_mark : (whole good : Bool) (mark c : ℕ) (ms cs : List ℕ) → Telling whole good (mark ∷ ms) (c ∷ cs) → Telling whole (good && fits_mark mark c) ms cs
unfolding begins
tell_mark whole good mark c ms cs t =
    let room = t.room in
    record { told = t.told ∙ sym (and_assoc good (fits_mark mark c) (begins ms cs)); room = omega arith }

pub tell_all : (whole good : Bool) (ms cs : List ℕ) → Telling whole good ms cs → length ms ≡ 0 → whole ≡ good
unfolding begins
tell_all whole good [] cs t none = t.told ∙ and-true good
tell_all whole good (m ∷ ms) cs t none = absurd (omega arith)

-- the fields of a text, tested one by one
pub fields_one_by_one : (n i : ℕ) (text : List ℕ)
    → list_all (λ i. begins (tab ∷ number_form) (drop (18 * i) text)) (range_with_len i n) ≡ begins (field_forms n) (drop (18 * i) text)
unfolding field_forms begins
fields_one_by_one zero i text = refl
fields_one_by_one (suc n) i text =
    let next : 18 * i + 18 ≡ 18 * (i + 1) = omega arith in
    rw (fields_one_by_one n (i + 1) text, begins_append (tab ∷ number_form) (field_forms n) (drop (18 * i) text), drop-drop 18 (18 * i) text, next)

-- the part of a text from a place on, as the code lends it
pub rest_whole : (text : List ℕ) (at : ℕ) → take (length text - at) (drop at text) ≡ drop at text
rest_whole text at = take_all (length text - at) (drop at text) (simp length-drop (omega arith))

-- a line, as it is tested: its name, its fields, its line feed
module _ (kind : Line) (u : List ℕ) where
  pub line_tested : width kind ≤ length u
      → begins (form kind) u ≡ (begins (name kind) u && (begins (field_forms (field_count kind)) (drop (first kind - 1) u) && eqb (get_or u (width kind - 1) 0) line_feed))
  unfolding form
  line_tested room =
      let n = field_count kind in
      let named : first kind - 1 ≡ length (name kind) = omega arith in
      let last : length (name kind) + 18 * n ≡ width kind - 1 = omega arith in
      begins_append (name kind) (field_forms n ++ (line_feed ∷ [])) u
      ∙ rw (
        begins_append (field_forms n) (line_feed ∷ []) (drop (length (name kind)) u),
        forms_length n,
        drop-drop (18 * n) (length (name kind)) u,
        last,
        named,
        feed_test u (width kind - 1) (omega arith),
      )

  -- the fields, as the code lends them
  pub fields_tested : (count at : ℕ) → count ≡ field_count kind → at ≡ first kind → (told : Bool)
      → told ≡ begins (field_forms count) (take (length u - (at - 1)) (drop (at - 1) u)) → begins (field_forms (field_count kind)) (drop (first kind - 1) u) ≡ told
  fields_tested count at count-is at-is told e = rw (← count-is, ← at-is) (sym (e ∙ ap (begins (field_forms count)) (rest_whole u (at - 1))))

-- a line of a kind that has its count of numbers, and one that has not
module _ (kind : Line) (vs out : List ℕ) (at : ℕ) where
  own_count : length vs ≡ field_count kind → inside (length out) at (length (line_of (name kind) vs)) ≡ fits_line kind (length vs) (length out) at
  unfolding fits_line
  own_count count =
      let wide : length (line_of (name kind) vs) ≡ width kind = line_long (name kind) vs ∙ rw count (omega arith) in
      rw (wide, eq-eqb (length vs) (field_count kind) count)

  own_line : length vs ≡ field_count kind → laid_if out at (line_of (name kind) vs) ≡ put_line kind vs out at
  unfolding laid_if put_line line
  own_line count = rw (own_count count)

  pub other_count : (length vs ≡ field_count kind → ⊥) → fits_line kind (length vs) (length out) at ≡ false
  unfolding fits_line
  other_count other = rw (ne_eqb (length vs) (field_count kind) other)

  pub line_kept : (length vs ≡ field_count kind → ⊥) → put_line kind vs out at ≡ out
  unfolding put_line
  line_kept other = rw (other_count other)

-- a line written by its kind's name
pub line_by_name : (kind : Line) (named : List ℕ) → named ≡ name kind → (vs out : List ℕ) (at : ℕ) → length vs ≡ field_count kind → (wrote : Bool) (after : List ℕ)
    → wrote ≡ inside (length out) at (length (line_of named vs)) → after ≡ laid_if out at (line_of named vs)
    → (wrote ≡ fits_line kind (length vs) (length out) at) × (after ≡ put_line kind vs out at)
line_by_name kind named same vs out at count wrote after wrote-is after_is =
    (wrote-is ∙ rw same (own_count kind vs out at count), after_is ∙ rw same (own_line kind vs out at count))
