-- The lines of a sheet (docs/RULES.md, "Run sheets"): a name, then its numbers, each behind a tab, then a line feed. What holds of
-- one kind of line holds of all, so everything here takes the kind. A further kind has a name and a count of numbers, and nothing else.
-- Assumes nothing.
use Rattle.std.specs.Prelude.{ℕ, ◌+◌, ◌*◌, Bool, cond, ◌&&◌, List, [], ◌∷◌, ◌++◌, length, drop, eqb}
use Rattle.numbers.specs.Numbers.{inside}
use Rattle.numbers.specs.Buffers.{laid}
use Rattle.processor.specs.Layout.{fields as state_fields}
use Rattle.instructions.specs.Instruction.{instruction_words}
use Rattle.texts.specs.Digits.{line_feed}
use Rattle.texts.specs.Fields.{line_of, field_bytes, field_forms, begins, values_in}
use Rattle.sheet.specs.declared.line.Line.{Line}
use Rattle.sheet.specs.declared.line.Line.TheVariants.{Sheet, State, Page, Word, Do}

-- ---- writing a line

-- "sheet", "state", "page", "word" and "do"
abbrev pub name : Line → List ℕ
name Sheet = 115 ∷ 104 ∷ 101 ∷ 101 ∷ 116 ∷ []
name State = 115 ∷ 116 ∷ 97 ∷ 116 ∷ 101 ∷ []
name Page = 112 ∷ 97 ∷ 103 ∷ 101 ∷ []
name Word = 119 ∷ 111 ∷ 114 ∷ 100 ∷ []
name Do = 100 ∷ 111 ∷ []

-- how many numbers a line has: the version; a state's fields; a page's entry; an address and the value there; an instruction's words
abbrev pub field_count : Line → ℕ
field_count Sheet = 1
field_count State = state_fields
field_count Page = 1
field_count Word = 2
field_count Do = instruction_words

unfoldable pub line : Line → List ℕ → List ℕ
line kind vs = line_of (name kind) vs

-- ---- where its numbers stand, and how long it is

-- where the first number of a line of a kind begins; the next is a field further
abbrev pub first : Line → ℕ
first kind = length (name kind) + 1

-- how long every line of a kind is
abbrev pub width : Line → ℕ
width kind = first kind + field_bytes * field_count kind

-- ---- writing a line into a text

-- as many numbers as this kind has, and room for the line at this place of a text of this length
unfoldable pub fits_line : Line → ℕ → ℕ → ℕ → Bool
fits_line kind count lent at = eqb count (field_count kind) && inside lent at (width kind)

-- the text with the line, or as it was
unfoldable pub put_line : Line → List ℕ → List ℕ → ℕ → List ℕ
put_line kind vs text at = cond (fits_line kind (length vs) (length text) at) (laid text at (line kind vs)) text

-- ---- reading a line: from here on nothing need be believed, since reading is pinned to writing (crates/sheet_claims)

-- what every line of a kind looks like
unfoldable pub form : Line → List ℕ
form kind = name kind ++ (field_forms (field_count kind) ++ (line_feed ∷ []))

-- a line is of a kind: it has the form, to its last byte
unfoldable pub is_line : Line → List ℕ → Bool
is_line kind l = begins (form kind) l && eqb (length l) (width kind)

-- the numbers of a line
unfoldable pub values : Line → List ℕ → List ℕ
values kind l = values_in (field_count kind) (drop (length (name kind)) l)
