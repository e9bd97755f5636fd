-- Reading and writing undo each other. Assumes nothing.
use Rattle.std.specs.Prelude.{◌≡◌, List, ℕ, ◌^◌, Ok}
use Rattle.texts.specs.Digits.{Below}
use Rattle.sheet.specs.Lent.{Buffers, tested}
use Rattle.sheet.specs.Sheets.{Saved, Sheeted, saved_of, text}
use Rattle.sheet.specs.Reading.{parsed, sheet}

-- what the types of lent buffers say: words of 64 bits, bytes of 8
pub record Typed (run : Buffers) : Type 0 where
  pub state : Below (2 ^ 64) run.state
  pub pages : Below (2 ^ 64) run.pages
  pub bytes : Below 256 run.bytes
  pub words : Below (2 ^ 64) run.words

-- what passed the tests of a run is saved as a run that has a sheet, its pages ascending
abbrev pub SavedSheeted : Type 0
SavedSheeted = (run : Buffers) → Typed run → tested run ≡ Ok tt → Sheeted (saved_of run)

-- reading what was written returns the run
abbrev pub ReadsBack : Type 0
ReadsBack = (s : Saved) → Sheeted s → parsed (text s) ≡ sheet s

-- writing what was read returns the text, to the byte
abbrev pub WritesBack : Type 0
WritesBack = (t : List ℕ) (s : Saved) → parsed t ≡ sheet s → Sheeted s × (text s ≡ t)
