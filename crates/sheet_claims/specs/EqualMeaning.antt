-- Two inputs of equal meaning have one text: the order of a page list does not show. Assumes nothing.
use Rattle.std.specs.Prelude.{◌≡◌, List, ℕ, length, Ok}
use Rattle.pages.specs.Pages.{listing}
use Rattle.memory.specs.Extends.{HoldsPages}
use Rattle.sheet.specs.Lent.{Buffers}
use Rattle.sheet.specs.Sheets.{saved_of, text}
use Rattle.sheet_write.specs.Writes.{writes}

-- equal states and instructions, and valid page lists that hold the same pages, alike in address, kind and bytes, in any order
pub record EqualMeaning (a b : Buffers) : Type 0 where
  pub state : a.state ≡ b.state
  pub words : a.words ≡ b.words
  pub valid_a : listing a.pages (length a.bytes) ≡ Ok tt
  pub valid_b : listing b.pages (length b.bytes) ≡ Ok tt
  pub there : HoldsPages a.pages a.bytes b.pages b.bytes
  pub back : HoldsPages b.pages b.bytes a.pages a.bytes

abbrev pub EqualText : Type 0
EqualText = (a b : Buffers) → EqualMeaning a b → text (saved_of a) ≡ text (saved_of b)

-- and a write of either answers the same and leaves the same, into any buffer
abbrev pub EqualWrites : Type 0
EqualWrites = (a b : Buffers) (out : List ℕ) → EqualMeaning a b → writes a out ≡ writes b out
