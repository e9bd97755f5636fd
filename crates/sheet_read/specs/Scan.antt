-- A sheet by the parts of its text. Serves private functions only: the contract of `read` cites none of it. Assumes nothing.
use Rattle.std.specs.Prelude.{ℕ, zero, suc, ◌+◌, ◌*◌, ◌≡◌, Bool, false, ◌&&◌, List, [], ◌∷◌, take, drop, leb, Option, Some, None, Result, Ok, Err}
use Rattle.pages.specs.Pages.{page_bytes, page_of}
use Rattle.processor.specs.Layout.{fields}
use Rattle.instructions.specs.Instruction.{instruction_words}
use Rattle.texts.specs.Fields.{lines, begins}
use Rattle.sheet.specs.Lines.{form, width, values}
use Rattle.sheet.specs.Lent.{Buffers}
use Rattle.sheet.specs.Sheets.{Saved, slots, line_count, bytes_of}
use Rattle.sheet.specs.Reading.{numbers, slot_value, past_slot, past_slots, past_pages, pages_in, sheet, no_sheet, parsed}
use Rattle.sheet.specs.declared.line.Line.{Line}
use Rattle.sheet_read.specs.Reads.{within}
use Rattle.sheet_read.specs.declared.buffers.Sizes.{Sizes}
use Rattle.sheet_read.specs.declared.row.Row.{Row}
use Rattle.sheet_read.specs.declared.stage.Stage.{Stage}
use Rattle.sheet_read.specs.declared.words.Words.{Words}
use Rattle.sheet_read.specs.declared.shape.Shape.{Shape}
use Rattle.sheet_read.specs.declared.scan.NoSheet.{NoSheet}

-- ---- a line

-- the line at the front of a text, if it is of this kind
abbrev pub IsFirst : Line → List ℕ → Option Row → Type 0
IsFirst kind t (Some row) = (row.kind ≡ kind) × (row.text.now ≡ t)
IsFirst kind t None = begins (form kind) t ≡ false

-- the numbers on it
abbrev pub values_on : Row → List ℕ
values_on row = values row.kind (take (width row.kind) row.text.now)

-- ---- a stage: lines of one kind, one behind the other

-- the lines behind it
abbrev pub behind : Stage → List (List ℕ)
behind stage = lines (drop (width stage.kind * stage.count) stage.text.now)

-- all numbers on its lines
unfoldable pub numbers_in : Stage → List ℕ
numbers_in stage = numbers stage.kind (take stage.count (lines stage.text.now))

-- n lines of a kind, with which a text begins
pub record Found (of : Line) (n : ℕ) (t : List ℕ) (stage : Stage) : Type 0 where
  pub kind : stage.kind ≡ of
  pub text : stage.text.now ≡ t
  pub counted : stage.count ≡ n

-- ---- how many lines the words take

-- n aligned values, from an address on
unfoldable pub slot_count : ℕ → ℕ → List (List ℕ) → ℕ
slot_count address zero ls = 0
slot_count address (suc n) ls = line_count (slot_value address ls) + slot_count (address + 8) n (past_slot address ls)

-- all pages of these entries
unfoldable pub word_count : List ℕ → List (List ℕ) → ℕ
word_count [] ls = 0
word_count (entry ∷ entries) ls = slot_count (page_of entry) slots ls + word_count entries (past_slots (page_of entry) slots ls)

-- what is left behind the word lines of pages
pub record Passed (pages : Stage) (words : Words) : Type 0 where
  pub left : lines words.text.now ≡ past_pages (numbers_in pages) (behind pages)
  pub counted : words.count ≡ word_count (numbers_in pages) (behind pages)

-- ---- a whole sheet

-- the run of a sheet of this shape
unfoldable pub saved_at : Shape → Saved
saved_at shape =
    record {
      state = values_on shape.state;
      pages = pages_in (numbers_in shape.pages) (behind shape.pages);
      words = numbers_in shape.steps;
    }

abbrev pub Scanned : List ℕ → Result Shape NoSheet → Type 0
Scanned t (Ok shape) = parsed t ≡ sheet (saved_at shape)
Scanned t (Err left) = parsed t ≡ no_sheet left.line

-- ---- its buffers

-- the same run, as it is read
unfoldable pub run_at : Shape → Buffers
run_at shape =
    record {
      state = values_on shape.state;
      pages = numbers_in shape.pages;
      bytes = bytes_of (pages_in (numbers_in shape.pages) (behind shape.pages));
      words = numbers_in shape.steps;
    }

-- how much it takes
abbrev pub sizes_at : Shape → Sizes
sizes_at shape = record { pages = shape.pages.count; bytes = page_bytes * shape.pages.count; words = instruction_words * shape.steps.count }

-- a state and a run of these sizes fit a buffer of this length and buffers of those sizes
unfoldable pub room_for : Sizes → ℕ → Sizes → Bool
room_for sizes state room = leb fields state && within sizes room
