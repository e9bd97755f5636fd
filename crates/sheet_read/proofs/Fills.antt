-- The turns of the loops that fill a buffer: what is laid from here on is one piece and the rest behind it. Assumes nothing.
use Prim.Native.Nat.{ℕ, suc, ◌+◌, ◌-◌, ◌*◌, ◌<◌, ◌≤◌}
use mathlib.Core.Path.{◌≡◌, ap, ◌∙◌}
use mathlib.Core.List.{List}
use native.Mathlib.Nat.{add-zero, mul-zero, mul-suc}
use native.Mathlib.Numerals.{add-one}
use native.Mathlib.Omega.{arith}
use lib.ListN.{length, take, drop, set, drop_of_length-le}
use lib.Seq.{drop-cons}
use Rattle.pages.specs.Pages.{page_bytes}
use Rattle.numbers.specs.Numbers.{little_bytes, put_if}
use Rattle.numbers.specs.Buffers.{laid}
use Rattle.numbers.proofs.Laws.{lies_inside, put_inside, put_laid, little_length, laid_cons, laid_nil, laid_turn}
use Rattle.texts.specs.Fields.{lines}
use Rattle.sheet.specs.Lines.{field_count, width, values}
use Rattle.sheet.specs.Sheets.{slots}
use Rattle.sheet.specs.Reading.{value, numbers, plain_count, past_slot, slot_value, slot_bytes}
use Rattle.sheet.specs.declared.line.Line.{Line}
use Rattle.sheet.proofs.LineLaws.{values_count}
use Rattle.sheet_read.proofs.Rows.{numbers_from, from_start, from_turn, from_end, part_room}
use Rattle.sheet_read.proofs.Stages.{bytes_start, bytes_turn, bytes_none}

-- ---- the numbers of a line

module _ (kind : Line) (l : List ℕ) (out : List ℕ) (at : ℕ) where
  pub number_start : laid out at (values kind l) ≡ laid out (at + 0) (values kind l)
  number_start = rw add-zero

  pub number_turn : (i v : ℕ) → i < field_count kind → at + i < length out → v ≡ value kind i l
      → laid out (at + i) (drop i (values kind l)) ≡ laid (set out (at + i) v) (at + (i + 1)) (drop (i + 1) (values kind l))
  number_turn i v less room v_is =
      let more : i < length (values kind l) = rw values_count less in
      let next : at + i + 1 ≡ at + (i + 1) = omega arith in
      rw (drop-cons (values kind l) i 0 more, ← v_is, laid_cons out (at + i) v (drop (suc i) (values kind l)) room, next, add-one i)

  pub number_end : (i : ℕ) → field_count kind ≤ i → laid out (at + i) (drop i (values kind l)) ≡ out
  number_end i end = rw (drop_of_length-le (values kind l) {i = i} (rw values_count end)) (laid_nil out (at + i))

-- ---- the numbers of lines

module _ (kind : Line) (u : List ℕ) (n : ℕ) (out : List ℕ) where
  pub rows_start : laid out 0 (numbers kind (take n (lines u))) ≡ laid out (field_count kind * 0) (numbers_from kind u n 0)
  rows_start = rw (from_start kind u n, mul-zero)

  pub rows_turn : (k : ℕ) → k < n → n ≤ plain_count kind (lines u) → field_count kind * n ≤ length out
      → laid out (field_count kind * k) (numbers_from kind u n k)
      ≡ laid (laid out (field_count kind * k) (values kind (take (width kind) (drop (width kind * k) u)))) (field_count kind * (k + 1)) (numbers_from kind u n (k + 1))
  rows_turn k less h room =
      let vs : List ℕ = values kind (take (width kind) (drop (width kind * k) u)) in
      let long : length vs ≡ field_count kind = values_count kind (take (width kind) (drop (width kind * k) u)) in
      let fits = part_room (field_count kind) k n less in
      let next : field_count kind * k + field_count kind ≡ field_count kind * (k + 1) = rw (add-one k) (rw mul-suc (omega arith)) in
      rw (from_turn kind u n k less h, laid_turn out (field_count kind * k) vs (numbers_from kind u n (k + 1)) (omega arith), long, next)

  pub rows_end : (k : ℕ) → n ≤ k → laid out (field_count kind * k) (numbers_from kind u n k) ≡ out
  rows_end k end = rw (from_end kind u n k end) (laid_nil out (field_count kind * k))

-- ---- the values of a page

module _ (out : List ℕ) (at base : ℕ) (ls : List (List ℕ)) where
  pub slot_start : laid out at (slot_bytes base slots ls) ≡ laid out (at + 8 * 0) (slot_bytes (base + 8 * 0) (slots - 0) ls)
  slot_start = rw (add-zero at) (ap (laid out at) (bytes_start base ls))

  pub slot_turn : (slot : ℕ) → slot < slots → at + page_bytes ≤ length out → (v : ℕ) (rest : List (List ℕ))
      → v ≡ slot_value (base + 8 * slot) ls → rest ≡ past_slot (base + 8 * slot) ls
      → laid out (at + 8 * slot) (slot_bytes (base + 8 * slot) (slots - slot) ls)
      ≡ laid (put_if (at + 8 * slot) 8 v out) (at + 8 * (slot + 1)) (slot_bytes (base + 8 * (slot + 1)) (slots - (slot + 1)) rest)
  slot_turn slot less room v rest value_is rest_is =
      let later : List ℕ = slot_bytes (base + 8 * (slot + 1)) (slots - (slot + 1)) rest in
      let eight : length (little_bytes 8 v) ≡ 8 = little_length 8 v in
      let fits : at + 8 * slot + 8 ≤ length out = omega arith in
      let stored : put_if (at + 8 * slot) 8 v out ≡ laid out (at + 8 * slot) (little_bytes 8 v)
      = put_inside out (at + 8 * slot) 8 v (lies_inside (length out) (at + 8 * slot) 8 fits) ∙ put_laid (at + 8 * slot) 8 v out fits
      in
      let next : at + 8 * slot + 8 ≡ at + 8 * (slot + 1) = omega arith in
      rw (stored, bytes_turn base slot ls less v rest value_is rest_is, laid_turn out (at + 8 * slot) (little_bytes 8 v) later (omega arith), eight, next)

  pub slot_end : (slot : ℕ) → slots ≤ slot → laid out (at + 8 * slot) (slot_bytes (base + 8 * slot) (slots - slot) ls) ≡ out
  slot_end slot end = rw (bytes_none base slot ls end) (laid_nil out (at + 8 * slot))
