-- Reading a sheet: from its lines, stage by stage; each stage takes lines while they are its own, and the first line that is left over
-- is refused. That this is the inverse of `text`, and that the refused line is the first that no sheet has, is proved
-- (crates/sheet_claims), so it need not be believed. Assumes nothing.
use Rattle.std.specs.Prelude.{ℕ, zero, suc, ◌+◌, ◌-◌, Bool, not, cond, ◌&&◌, List, [], ◌∷◌, ◌++◌, length, get_or, take, drop, eqb, leb}
use Rattle.pages.specs.Pages.{page_of}
use Rattle.order.specs.Order.{page_number}
use Rattle.numbers.specs.Numbers.{little_bytes}
use Rattle.texts.specs.Fields.{lines}
use Rattle.sheet.specs.Lines.{is_line, values}
use Rattle.sheet.specs.Sheets.{Page, Saved, slots, version}
use Rattle.sheet.specs.declared.line.Line.{Line}
use Rattle.sheet.specs.declared.line.Line.TheVariants.{Sheet, State as StateLine, Page as PageLine, Word, Do}

-- what a text is: a saved run, or no sheet, with the number of the refused line
pub data Parsed : Type 0 where
  sheet : Saved → Parsed
  no_sheet : ℕ → Parsed

-- the i-th number of a line of a kind
abbrev pub value : Line → ℕ → List ℕ → ℕ
value kind i l = get_or (values kind l) i 0

-- the next line, or an empty one
abbrev pub next : List (List ℕ) → List ℕ
next ls = get_or ls 0 []

-- ---- plain lines: any number of one kind, whose numbers are just listed

-- how many lines are of a kind
unfoldable pub plain_count : Line → List (List ℕ) → ℕ
plain_count kind [] = 0
plain_count kind (l ∷ ls) = cond (is_line kind l) (suc (plain_count kind ls)) 0

-- all the numbers of these lines of a kind, one behind the other
unfoldable pub numbers : Line → List (List ℕ) → List ℕ
numbers kind [] = []
numbers kind (l ∷ ls) = values kind l ++ numbers kind ls

-- what a stage of plain lines takes, and what it leaves
abbrev pub plain_numbers : Line → List (List ℕ) → List ℕ
plain_numbers kind ls = numbers kind (take (plain_count kind ls) ls)

abbrev pub past_plain : Line → List (List ℕ) → List (List ℕ)
past_plain kind ls = drop (plain_count kind ls) ls

-- ---- pages

-- how many lines are pages in ascending order, none below the page number `least`
unfoldable pub page_count : ℕ → List (List ℕ) → ℕ
page_count least [] = 0
page_count least (l ∷ ls) =
    cond (is_line PageLine l && leb least (page_number (value PageLine 0 l))) (suc (page_count (suc (page_number (value PageLine 0 l))) ls)) 0

-- ---- words: the pages' addresses are walked 8 by 8, and the next line is taken where it is this address's. A line that is out of order, off
-- its 8, on no page or 0 is none's, and left over.

-- the line gives a value, not 0, to this address
unfoldable pub is_word : ℕ → List ℕ → Bool
is_word address l = is_line Word l && (eqb (value Word 0 l) address && not (eqb (value Word 1 l) 0))

-- the value at an address: that of the next line, if it is this address's, else 0
unfoldable pub slot_value : ℕ → List (List ℕ) → ℕ
slot_value address ls = cond (is_word address (next ls)) (value Word 1 (next ls)) 0

-- the lines left
unfoldable pub past_slot : ℕ → List (List ℕ) → List (List ℕ)
past_slot address ls = cond (is_word address (next ls)) (drop 1 ls) ls

-- the bytes of n aligned values of 8, from an address on
unfoldable pub slot_bytes : ℕ → ℕ → List (List ℕ) → List ℕ
slot_bytes address zero ls = []
slot_bytes address (suc n) ls = little_bytes 8 (slot_value address ls) ++ slot_bytes (address + 8) n (past_slot address ls)

-- the lines left after them
unfoldable pub past_slots : ℕ → ℕ → List (List ℕ) → List (List ℕ)
past_slots address zero ls = ls
past_slots address (suc n) ls = past_slots (address + 8) n (past_slot address ls)

-- all pages of these entries
unfoldable pub pages_in : List ℕ → List (List ℕ) → List Page
pages_in [] ls = []
pages_in (entry ∷ entries) ls =
    record { entry = entry; bytes = slot_bytes (page_of entry) slots ls } ∷ pages_in entries (past_slots (page_of entry) slots ls)

unfoldable pub past_pages : List ℕ → List (List ℕ) → List (List ℕ)
past_pages [] ls = ls
past_pages (entry ∷ entries) ls = past_pages entries (past_slots (page_of entry) slots ls)

-- ---- a whole sheet

-- how the lines after `sheet` and `state` are shared out
pub record Stages : Type 0 where
  pub pages : List Page
  pub words : List ℕ
  pub left : List (List ℕ)

-- each stage begins behind the one before it
unfoldable pub stages : List (List ℕ) → Stages
stages ls =
    let entries : List ℕ = numbers PageLine (take (page_count 0 ls) ls) in
    let behind_pages : List (List ℕ) = drop (page_count 0 ls) ls in
    let behind_words : List (List ℕ) = past_pages entries behind_pages in
    record { pages = pages_in entries behind_pages; words = plain_numbers Do behind_words; left = past_plain Do behind_words }

-- nothing may be left over; `all` is how many lines there are
abbrev pub finished : List ℕ → ℕ → Stages → Parsed
finished state all s =
    cond (eqb (length s.left) 0) (sheet (record { state = state; pages = s.pages; words = s.words }))
    (no_sheet (suc (all - length s.left)))

-- the lines behind the first: the state, then the stages
unfoldable pub parsed_body : List (List ℕ) → Parsed
parsed_body ls =
    cond (is_line StateLine (next ls)) (finished (values StateLine (next ls)) (suc (length ls)) (stages (drop 1 ls))) (no_sheet 2)

-- by the version that the first line names: one is known
unfoldable pub parsed_by : ℕ → List (List ℕ) → Parsed
parsed_by named ls = cond (eqb named version) (parsed_body ls) (no_sheet 1)

unfoldable pub parsed_lines : List (List ℕ) → Parsed
parsed_lines ls = cond (is_line Sheet (next ls)) (parsed_by (value Sheet 0 (next ls)) (drop 1 ls)) (no_sheet 1)

unfoldable pub parsed : List ℕ → Parsed
parsed t = parsed_lines (lines t)
