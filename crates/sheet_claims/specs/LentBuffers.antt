-- Reading and writing undo each other, of what the contracts of `read` and `write` give: answers, and lent buffers of any length.
-- Assumes nothing.
use Rattle.std.specs.Prelude.{ℕ, ◌<◌, ◌≤◌, ◌≡◌, List, length, take, Ok}
use Rattle.memory.specs.Extends.{HoldsPages}
use Rattle.answers.specs.Answer.{room_number}
use Rattle.sheet.specs.Lines.{field_count}
use Rattle.sheet.specs.declared.line.Line.TheVariants.{State as StateLine}
use Rattle.sheet.specs.Lent.{Buffers, tested}
use Rattle.sheet.specs.Sheets.{Saved, saved_of, buffers_of, text}
use Rattle.sheet.specs.Reading.{parsed, sheet}
use Rattle.sheet_read.specs.Reads.{read_number, delivered, reads}
use Rattle.sheet_read.specs.declared.buffers.Sizes.{Sizes}
use Rattle.sheet_write.specs.Writes.{write_number, printed, writes}
use Rattle.sheet_claims.specs.RoundTrips.{Typed}

-- Of every write that is done, reading the text returns the run, its pages ascending: into every buffer that has room, and with the
-- sizes that it needs where one has not.
abbrev pub WrittenRead : Type 0
WrittenRead =
    (run : Buffers) (out : List ℕ) (lent : Buffers) (long : ℕ)
    → Typed run
    → (writes run out).answer ≡ Ok long
    → reads (take long (writes run out).text) lent ≡ delivered (buffers_of (saved_of run)) lent

-- what a read that is done has put into the buffers: so much of the front of each
abbrev pub fronts : Sizes → Buffers → Buffers
fronts sizes lent =
    record {
      state = take (field_count StateLine) lent.state;
      pages = take sizes.pages lent.pages;
      bytes = take sizes.bytes lent.bytes;
      words = take sizes.words lent.words;
    }

-- The pages so read are those that were lent, alike in address, kind and bytes: each lent page is among them, and each of them was lent.
-- Only their order may be another.
abbrev pub PagesReadBack : Type 0
PagesReadBack =
    (run : Buffers) (out : List ℕ) (lent : Buffers) (long : ℕ) (sizes : Sizes)
    → Typed run
    → (writes run out).answer ≡ Ok long
    → (reads (take long (writes run out).text) lent).answer ≡ Ok sizes
    → let back : Buffers = fronts sizes (reads (take long (writes run out).text) lent).buffers in
    HoldsPages run.pages run.bytes back.pages back.bytes × HoldsPages back.pages back.bytes run.pages run.bytes

-- Of every read that is done, writing what the buffers then hold returns the text: into a buffer that has room, and with its length
-- where it has not.
abbrev pub ReadWritten : Type 0
ReadWritten = (t out : List ℕ) (lent : Buffers) (sizes : Sizes) → (reads t lent).answer ≡ Ok sizes → writes (fronts sizes (reads t lent).buffers) out ≡ printed t out

-- so many bytes are room enough for the sheet of every run that is not refused
abbrev pub most_text : ℕ
most_text = 413250

abbrev pub LongestText : Type 0
LongestText = (run : Buffers) → tested run ≡ Ok tt → length (text (saved_of run)) ≤ most_text

-- a refused read leaves every buffer as it was
abbrev pub ReadUntouched : Type 0
ReadUntouched = (t : List ℕ) (lent : Buffers) → (read_number (reads t lent).answer ≡ 0 → ⊥) → (reads t lent).buffers ≡ lent

-- and so does a refused write
abbrev pub WriteUntouched : Type 0
WriteUntouched = (run : Buffers) (out : List ℕ) → (write_number (writes run out).answer ≡ 0 → ⊥) → (writes run out).text ≡ out

-- ---- refusal 8

-- every part of a run fits its buffer
pub record Room (run lent : Buffers) : Type 0 where
  pub state : length run.state ≤ length lent.state
  pub pages : length run.pages ≤ length lent.pages
  pub bytes : length run.bytes ≤ length lent.bytes
  pub words : length run.words ≤ length lent.words

-- of a sheet whose run passes its tests, a read is done where every part fits, and else gets 8
abbrev pub ReadRoom : Type 0
ReadRoom =
    (t : List ℕ) (s : Saved) (lent : Buffers)
    → parsed t ≡ sheet s
    → tested (buffers_of s) ≡ Ok tt
    → (Room (buffers_of s) lent → read_number (reads t lent).answer ≡ 0) × ((Room (buffers_of s) lent → ⊥) → read_number (reads t lent).answer ≡ room_number)

-- of a run that passes its tests, a write is done where the text fits, and else gets 8
abbrev pub WriteRoom : Type 0
WriteRoom =
    (run : Buffers) (out : List ℕ)
    → tested run ≡ Ok tt
    → (length (text (saved_of run)) ≤ length out → write_number (writes run out).answer ≡ 0) × (length out < length (text (saved_of run)) → write_number (writes run out).answer ≡ room_number)

-- 8 comes last: any other refusal is the same whatever is lent
abbrev pub ReadRoomLast : Type 0
ReadRoomLast =
    (t : List ℕ) (lent other : Buffers)
    → (read_number (reads t lent).answer ≡ 0 → ⊥)
    → (read_number (reads t lent).answer ≡ room_number → ⊥)
    → (reads t other).answer ≡ (reads t lent).answer

abbrev pub WriteRoomLast : Type 0
WriteRoomLast =
    (run : Buffers) (out other : List ℕ)
    → (write_number (writes run out).answer ≡ 0 → ⊥)
    → (write_number (writes run out).answer ≡ room_number → ⊥)
    → (writes run other).answer ≡ (writes run out).answer
