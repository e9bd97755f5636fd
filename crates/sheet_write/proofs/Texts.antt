-- The text of a sheet in the pieces that the code lays, one behind the other. Assumes nothing.
use Prim.Native.Nat.{ℕ}
use mathlib.Core.Path.{◌≡◌, refl, ap}
use mathlib.Core.List.{List, [], ◌∷◌, ◌++◌, append-nil}
use Rattle.texts.specs.Fields.{joined}
use Rattle.sheet.specs.Lines.{line}
use Rattle.sheet.specs.Lent.{Buffers}
use Rattle.sheet.specs.Sheets.{Page, page_lines, pages_words, page_words, all_plain, sheet_lines, text, saved_of, version}
use Rattle.sheet.specs.declared.line.Line.TheVariants.{Sheet, State as StateLine, Page as PageLine, Do}
use Rattle.sheet_write.specs.Laying.{all_lines}
use Rattle.sheet_write.specs.declared.lay.Pass.TheVariants.{Entries, Values}
use Rattle.sheet_write.proofs.Ascending.{in_order}
use Rattle.sheet_write.proofs.Lays.{Begins, joined_append}

-- the passes over the pages write the lines of the sheet

entries_pass : (ps : List Page) → page_lines ps ≡ all_lines Entries ps
unfolding page_lines all_lines
entries_pass [] = refl
entries_pass (p ∷ ps) = ap (λ (ls : List (List ℕ)). line PageLine (p.entry ∷ []) ∷ ls) (entries_pass ps)

values_pass : (ps : List Page) → pages_words ps ≡ all_lines Values ps
unfolding pages_words all_lines
values_pass [] = refl
values_pass (p ∷ ps) = ap (λ (ls : List (List ℕ)). page_words p ++ ls) (values_pass ps)

abbrev pub pieces : Buffers → List (List ℕ)
pieces run =
    line Sheet (version ∷ [])
    ∷ line StateLine run.state
    ∷ joined (all_lines Entries (in_order run.pages run.bytes))
    ∷ joined (all_lines Values (in_order run.pages run.bytes))
    ∷ joined (all_plain Do run.words)
    ∷ []

pub in_pieces : (run : Buffers) → text (saved_of run) ≡ joined (pieces run)
unfolding text saved_of sheet_lines joined
in_pieces run =
    let S = in_order run.pages run.bytes in
    rw (
      joined_append (page_lines S) (pages_words S ++ all_plain Do run.words),
      joined_append (pages_words S) (all_plain Do run.words),
      entries_pass S,
      values_pass S,
      append-nil (joined (all_plain Do run.words)),
    )

-- a piece and the others
pub piece_first : (piece : List ℕ) (later : List (List ℕ)) → Begins (joined (piece ∷ later)) piece (joined later)
unfolding joined
piece_first piece later = record { split = refl }

pub joined_none : joined [] ≡ []
unfolding joined
joined_none = refl
