-- Reading a sheet into lent buffers (docs/RULES.md, "Run sheets"): the answer, and what every buffer holds after it. Assumes nothing.
use Rattle.std.specs.Prelude.{ℕ, Bool, cond, ◌&&◌, List, length, leb, Result, Ok, Err}
use Rattle.answers.specs.Answer.{refusal_number, room_number, sheet_number}
use Rattle.answers.specs.declared.answer.Refusal.{Refusal}
use Rattle.sheet.specs.Lent.{Buffers, tested}
use Rattle.sheet.specs.Sheets.{buffers_of}
use Rattle.sheet.specs.Reading.{Parsed, sheet, no_sheet, parsed}
use Rattle.numbers.specs.Buffers.{laid}
use Rattle.sheet_read.specs.declared.buffers.Sizes.{Sizes}
use Rattle.sheet_read.specs.declared.buffers.ReadError.{ReadError}
use Rattle.sheet_read.specs.declared.buffers.ReadError.TheVariants.{NoSheet, Refused, TooLong}

-- the refusal of a read, or 0
abbrev pub read_number : Result Sizes ReadError → ℕ
read_number (Ok sizes) = 0
read_number (Err (NoSheet line)) = sheet_number
read_number (Err (Refused refusal)) = refusal_number refusal
read_number (Err (TooLong sizes)) = room_number

-- the answer, and what the buffers hold
pub record Read : Type 0 where
  pub answer : Result Sizes ReadError
  pub buffers : Buffers

abbrev pub untouched : ReadError → Buffers → Read
untouched error lent = record { answer = Err error; buffers = lent }

-- how much a run takes
abbrev pub sizes_of : Buffers → Sizes
sizes_of run = record { pages = length run.pages; bytes = length run.bytes; words = length run.words }

-- so much fits where there is room for so much
abbrev pub within : Sizes → Sizes → Bool
within sizes room = leb sizes.pages room.pages && (leb sizes.bytes room.bytes && leb sizes.words room.words)

-- every part fits its buffer
unfoldable pub fits : Buffers → Buffers → Bool
fits run lent = leb (length run.state) (length lent.state) && within (sizes_of run) (sizes_of lent)

-- every part at the front of its buffer; what lies past it stays
unfoldable pub filled : Buffers → Buffers → Buffers
filled run lent =
    record {
      state = laid lent.state 0 run.state;
      pages = laid lent.pages 0 run.pages;
      bytes = laid lent.bytes 0 run.bytes;
      words = laid lent.words 0 run.words;
    }

-- a run that passed its tests: into the buffers, or with the sizes that it needs
abbrev pub delivered : Buffers → Buffers → Read
delivered run lent = cond (fits run lent) (record { answer = Ok (sizes_of run); buffers = filled run lent }) (untouched (TooLong (sizes_of run)) lent)

abbrev pub by_test : Result (Unit {0}) Refusal → Buffers → Buffers → Read
by_test (Ok x) run lent = delivered run lent
by_test (Err refusal) run lent = untouched (Refused refusal) lent

abbrev pub by_text : Parsed → Buffers → Read
by_text (sheet s) lent = by_test (tested (buffers_of s)) (buffers_of s) lent
by_text (no_sheet line) lent = untouched (NoSheet line) lent

-- Refusal 9 first, with its line; then those of a run; refusal 8 last. A refused read leaves every buffer as it was.
unfoldable pub reads : List ℕ → Buffers → Read
reads text lent = by_text (parsed text) lent
