-- The run of a sheet by its shape: how long each part is, how it is tested, what lies in the buffers after it. Assumes nothing.
use Prim.Native.Nat.{ℕ, ◌*◌, ◌<◌, ◌≤◌, ◌^◌}
use mathlib.Core.Path.{◌≡◌, refl, ap, ◌∙◌}
use mathlib.Core.Bool.{true, false}
use mathlib.Core.List.{List}
use native.Mathlib.Omega.{arith}
use lib.Dec.{leb}
use borrow.Author.Tests.{leb-true}
use lib.ListN.{length}
use Rattle.std.proofs.Common.{Result, Ok, Err}
use Rattle.numbers.specs.Buffers.{laid}
use Rattle.pages.specs.Pages.{page_bytes, page_limit}
use Rattle.processor.specs.Layout.{fields}
use Rattle.state_words.specs.Formed.{good_state}
use Rattle.answers.specs.declared.answer.Refusal.{Refusal}
use Rattle.answers.specs.declared.answer.Refusal.TheVariants.{Length}
use Rattle.instructions.specs.Instruction.{instruction_words}
use Rattle.replay.specs.Run.{check_by}
use Rattle.sheet.specs.Lines.{field_count}
use Rattle.sheet.specs.Lent.{Buffers, tested}
use Rattle.sheet.specs.Sheets.{buffers_of, bytes_of}
use Rattle.sheet.specs.Reading.{Parsed, sheet, no_sheet, pages_in, parsed}
use Rattle.texts.proofs.DigitLaws.{both}
use Rattle.sheet.proofs.LineLaws.{values_count}
use Rattle.sheet.proofs.TestedLaws.{passes, too_many}
use Rattle.sheet_read.specs.Reads.{untouched, sizes_of, fits, filled, delivered, by_test, by_text, reads}
use Rattle.sheet_read.specs.Scan.{values_on, numbers_in, behind, saved_at, run_at, sizes_at, room_for}
use Rattle.sheet_read.specs.declared.buffers.Sizes.{Sizes}
use Rattle.sheet_read.specs.declared.buffers.ReadError.TheVariants.{NoSheet, Refused, TooLong}
use Rattle.sheet_read.specs.declared.stage.Stage.{Stage}
use Rattle.sheet_read.specs.declared.shape.Shape.{Shape}
use Rattle.sheet_read.proofs.Rows.{numbers_long}
use Rattle.sheet_read.proofs.Rooms.{within_parts}
use Rattle.sheet_read.proofs.Pages.{entries_kept, bytes_length}

-- every part fits its buffer
pub room_parts : (sizes : Sizes) (state : ℕ) (room : Sizes) → room_for sizes state room ≡ true → (fields ≤ state) × (sizes.pages ≤ room.pages) × (sizes.bytes ≤ room.bytes) × (sizes.words ≤ room.words)
unfolding room_for
room_parts sizes state room h =
    let parts = both (leb fields state) _ h in
    let rest = within_parts sizes room parts.1 in
    (leb-true _ _ parts.0, rest.0, rest.1, rest.2)

-- ---- the parts

stage_long : (stage : Stage) → length (numbers_in stage) ≡ field_count stage.kind * stage.count
unfolding numbers_in
stage_long stage = numbers_long stage.kind stage.count stage.text.now stage.stands

module _ (shape : Shape) where
  run_is : buffers_of (saved_at shape) ≡ run_at shape
  unfolding saved_at run_at
  run_is = rw (entries_kept (numbers_in shape.pages) (behind shape.pages))

  pub fields_long : length (values_on shape.state) ≡ fields
  fields_long = values_count shape.state.kind _ ∙ ap field_count shape.kinds.0

  pub pages_long : length (numbers_in shape.pages) ≡ shape.pages.count
  pages_long = stage_long shape.pages ∙ rw shape.kinds.1 (omega arith)

  bytes_long : length (bytes_of (pages_in (numbers_in shape.pages) (behind shape.pages))) ≡ page_bytes * shape.pages.count
  bytes_long = rw (bytes_length (numbers_in shape.pages) (behind shape.pages), pages_long)

  words_long : length (numbers_in shape.steps) ≡ instruction_words * shape.steps.count
  words_long = stage_long shape.steps ∙ rw shape.kinds.2

  -- their words are fewer than the bytes of their lines
  pub few_words : 4 * shape.steps.count < 2 ^ 64
  few_words = let room = rw shape.kinds.2 at shape.steps.room in omega arith

  sizes_are : sizes_of (run_at shape) ≡ sizes_at shape
  unfolding run_at
  sizes_are = rw (pages_long, bytes_long, words_long)

  pub tested_is : tested (run_at shape)
      ≡ check_by (numbers_in shape.pages) (page_bytes * shape.pages.count) (good_state (values_on shape.state)) (instruction_words * shape.steps.count)
  unfolding run_at
  tested_is = rw (bytes_long, words_long)

  pub too_many_pages : page_limit < shape.pages.count → tested (run_at shape) ≡ Err Length
  unfolding run_at
  too_many_pages many = too_many (run_at shape) (rw pages_long many)

  pub few_pages : tested (run_at shape) ≡ Ok tt → shape.pages.count ≤ page_limit
  unfolding run_at
  few_pages passed = rw pages_long at (passes (run_at shape) passed).list.few

  module _ (lent : Buffers) where
    fits_are : fits (run_at shape) lent ≡ room_for (sizes_at shape) (length lent.state) (sizes_of lent)
    unfolding fits room_for run_at
    fits_are = rw (fields_long, pages_long, bytes_long, words_long)

    pub too_long : room_for (sizes_at shape) (length lent.state) (sizes_of lent) ≡ false → delivered (run_at shape) lent ≡ untouched (TooLong (sizes_at shape)) lent
    too_long none = rw (fits_are, none, sizes_are)

    pub loaded : room_for (sizes_at shape) (length lent.state) (sizes_of lent) ≡ true
        → (after : Buffers) → after ≡ filled (run_at shape) lent → delivered (run_at shape) lent ≡ record { answer = Ok (sizes_at shape); buffers = after }
    loaded room after after_is = rw (fits_are, room, sizes_are, after_is)

    pub filled_is : filled (run_at shape) lent
        ≡ record {
          state = laid lent.state 0 (values_on shape.state);
          pages = laid lent.pages 0 (numbers_in shape.pages);
          bytes = laid lent.bytes 0 (bytes_of (pages_in (numbers_in shape.pages) (behind shape.pages)));
          words = laid lent.words 0 (numbers_in shape.steps);
        }
    unfolding filled run_at
    filled_is = refl

    -- ---- the whole answer, by the test of the run

    module _ (t : List ℕ) (saved : parsed t ≡ sheet (saved_at shape)) where
      read_is : reads t lent ≡ by_test (tested (run_at shape)) (run_at shape) lent
      unfolding reads
      read_is = ap (λ (p : Parsed). by_text p lent) saved ∙ ap (λ (run : Buffers). by_test (tested run) run lent) run_is

      pub refused : (refusal : Refusal) → tested (run_at shape) ≡ Err refusal → reads t lent ≡ untouched (Refused refusal) lent
      refused refusal test = read_is ∙ ap (λ (r : Result (Unit {0}) Refusal). by_test r (run_at shape) lent) test

      pub passed : tested (run_at shape) ≡ Ok tt → reads t lent ≡ delivered (run_at shape) lent
      passed test = read_is ∙ ap (λ (r : Result (Unit {0}) Refusal). by_test r (run_at shape) lent) test

pub no_sheet_lem : (t : List ℕ) (line : ℕ) (lent : Buffers) → parsed t ≡ no_sheet line → reads t lent ≡ untouched (NoSheet line) lent
unfolding reads
no_sheet_lem t line lent none = rw none
