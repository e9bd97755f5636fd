-- The refused line is the first, counted from 1, that cannot begin or continue a sheet; a missing line counts as the one after the last.
-- A line is compared with the line feed that ends it, so that an unended last line is that line. "A sheet" is the text of any run that has
-- one, whether or not the run is refused besides. Assumes nothing.
use Rattle.std.specs.Prelude.{ℕ, ◌-◌, ◌≤◌, ◌≡◌, List, take}
use Rattle.texts.specs.Fields.{lines}
use Rattle.sheet.specs.Sheets.{Saved, Sheeted, text}
use Rattle.sheet.specs.Reading.{parsed, no_sheet}

-- lines are counted from 1
abbrev pub FromOne : Type 0
FromOne = (t : List ℕ) (n : ℕ) → parsed t ≡ no_sheet n → 1 ≤ n

-- some sheet begins with the lines before it
abbrev pub Before : Type 0
Before = (t : List ℕ) (n : ℕ) → parsed t ≡ no_sheet n → (s : Saved) × Sheeted s × (take (n - 1) (lines (text s)) ≡ take (n - 1) (lines t))

-- No sheet begins with the lines up to it. Where the text has only n - 1 lines, `take n` is all of them: no sheet is just these, the n-th is
-- missing. With `Before` no other number is possible.
abbrev pub NotHere : Type 0
NotHere = (t : List ℕ) (n : ℕ) → parsed t ≡ no_sheet n → (s : Saved) → Sheeted s → take n (lines (text s)) ≡ take n (lines t) → ⊥
