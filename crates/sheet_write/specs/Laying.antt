-- Pieces of a text laid into its buffer one behind the other, for the contracts of private functions. Assumes nothing.
use Rattle.std.specs.Prelude.{ℕ, ◌+◌, ◌*◌, ◌≡◌, List, [], ◌∷◌, ◌++◌, length}
use Rattle.numbers.specs.Buffers.{laid}
use Rattle.sheet.specs.Lines.{line, width}
use Rattle.sheet.specs.Sheets.{Page, page_words}
use Rattle.sheet.specs.declared.line.Line.TheVariants.{Sheet, State as StateLine, Page as PageLine, Word, Do}
use Rattle.sheet_write.specs.declared.lay.Pass.{Pass}
use Rattle.sheet_write.specs.declared.lay.Pass.TheVariants.{Entries, Values}

-- what a piece laid at a place leaves, and the place behind it
pub record Laying (out : List ℕ) (at : ℕ) (piece after : List ℕ) (next : ℕ) : Type 0 where
  pub text : after ≡ laid out at piece
  pub place : next ≡ at + length piece

-- how long a sheet is, by how many pages, nonzero values and instructions it has
unfoldable pub text_length : ℕ → ℕ → ℕ → ℕ
text_length pages values steps = width Sheet + width StateLine + width PageLine * pages + width Word * values + width Do * steps

-- ---- a pass over the pages

-- the lines of one page
abbrev pub lines_of : Pass → Page → List (List ℕ)
lines_of Entries p = line PageLine (p.entry ∷ []) ∷ []
lines_of Values p = page_words p

-- the lines of all
unfoldable pub all_lines : Pass → List Page → List (List ℕ)
all_lines pass [] = []
all_lines pass (p ∷ ps) = lines_of pass p ++ all_lines pass ps
