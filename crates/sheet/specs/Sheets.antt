-- A saved run and its sheet (docs/RULES.md, "Run sheets"). This file, Lent, and the writing halves of Lines and of Digits and Fields
-- (crates/texts) are what a reader must believe; that reading is the inverse of `text` is proved (crates/sheet_claims). Assumes nothing.
use Rattle.std.specs.Prelude.{ℕ, zero, suc, ◌+◌, ◌/◌, ◌%◌, ◌^◌, ◌<◌, ◌≤◌, ◌≡◌, cond, List, [], ◌∷◌, ◌++◌, length, take, drop, eqb, leb}
use Rattle.pages.specs.Pages.{page_bytes, page_of}
use Rattle.order.specs.Order.{page_number}
use Rattle.numbers.specs.Numbers.{number_at}
use Rattle.texts.specs.Digits.{Below}
use Rattle.texts.specs.Fields.{joined}
use Rattle.sheet.specs.Lines.{field_count, line}
use Rattle.sheet.specs.Lent.{Buffers}
use Rattle.sheet.specs.declared.line.Line.{Line}
use Rattle.sheet.specs.declared.line.Line.TheVariants.{Sheet, State as StateLine, Page as PageLine, Word, Do}

-- ---- a saved run

-- a page: its entry (address and kind) and its 4,096 bytes
pub record Page : Type 0 where
  pub entry : ℕ
  pub bytes : List ℕ

-- The fields of a state, the pages, and the instructions, four words each. What `word` lines hold is in the pages' bytes.
pub record Saved : Type 0 where
  pub state : List ℕ
  pub pages : List Page
  pub words : List ℕ

-- pages strictly ascending by address, none below the page number `least`
unfoldable pub Ascending : ℕ → List Page → Type 0
Ascending least [] = Unit {0}
Ascending least (p ∷ ps) = (least ≤ page_number p.entry) × Ascending (suc (page_number p.entry)) ps

-- a page's entry has 64 bits; there are 4,096 bytes of 8 bits
pub record WholePage (p : Page) : Type 0 where
  pub entry : p.entry < 2 ^ 64
  pub long : length p.bytes ≡ page_bytes
  pub bytes : Below 256 p.bytes

unfoldable pub WholePages : List Page → Type 0
WholePages [] = Unit {0}
WholePages (p ∷ ps) = WholePage p × WholePages ps

-- A run that has a sheet: all fields of a state, pages ascending, four words to each instruction. Nothing else is asked: a run that is refused
-- (a kind 0, a 17th page, a state out of range) has a sheet too.
pub record Sheeted (s : Saved) : Type 0 where
  pub fields : length s.state ≡ field_count StateLine
  pub state : Below (2 ^ 64) s.state
  pub ascending : Ascending 0 s.pages
  pub pages : WholePages s.pages
  pub whole : length s.words % field_count Do ≡ 0
  pub words : Below (2 ^ 64) s.words

-- ---- its lines

-- how many lines a value takes, and its line: none for 0
abbrev pub line_count : ℕ → ℕ
line_count value = cond (eqb value 0) 0 1

abbrev pub word_line : ℕ → ℕ → List (List ℕ)
word_line address value = cond (eqb value 0) [] (line Word (address ∷ value ∷ []) ∷ [])

-- n aligned values of 8 bytes, from an address on
unfoldable pub word_lines : ℕ → ℕ → List ℕ → List (List ℕ)
word_lines address zero bytes = []
word_lines address (suc n) bytes = word_line address (number_at bytes 0 8) ++ word_lines (address + 8) n (drop 8 bytes)

-- how many values of 8 bytes a page has
abbrev pub slots : ℕ
slots = page_bytes / 8

abbrev pub page_words : Page → List (List ℕ)
page_words p = word_lines (page_of p.entry) slots p.bytes

unfoldable pub pages_words : List Page → List (List ℕ)
pages_words [] = []
pages_words (p ∷ ps) = page_words p ++ pages_words ps

unfoldable pub page_lines : List Page → List (List ℕ)
page_lines [] = []
page_lines (p ∷ ps) = line PageLine (p.entry ∷ []) ∷ page_lines ps

-- n plain lines of a kind: its numbers, just listed
unfoldable pub plain_lines : Line → ℕ → List ℕ → List (List ℕ)
plain_lines kind zero numbers = []
plain_lines kind (suc n) numbers = line kind (take (field_count kind) numbers) ∷ plain_lines kind n (drop (field_count kind) numbers)

-- all of them
abbrev pub all_plain : Line → List ℕ → List (List ℕ)
all_plain kind numbers = plain_lines kind (length numbers / field_count kind) numbers

-- the newest version
abbrev pub version : ℕ
version = 1

-- The lines of a sheet: its version, the state, the pages, the words of all pages, the instructions.
unfoldable pub sheet_lines : Saved → List (List ℕ)
sheet_lines s =
    line Sheet (version ∷ [])
    ∷ line StateLine s.state
    ∷ (page_lines s.pages ++ (pages_words s.pages ++ all_plain Do s.words))

unfoldable pub text : Saved → List ℕ
text s = joined (sheet_lines s)

-- ---- from the lent buffers

-- a page list with its bytes: the i-th 4,096 bytes are the i-th page's
unfoldable pub pages_of : List ℕ → List ℕ → List Page
pages_of [] bytes = []
pages_of (entry ∷ entries) bytes = record { entry = entry; bytes = take page_bytes bytes } ∷ pages_of entries (drop page_bytes bytes)

-- a page put before the first that has no smaller address
unfoldable pub insert : Page → List Page → List Page
insert p [] = p ∷ []
insert p (q ∷ qs) = cond (leb (page_number p.entry) (page_number q.entry)) (p ∷ q ∷ qs) (q ∷ insert p qs)

-- the pages in ascending order
unfoldable pub ascended : List Page → List Page
ascended [] = []
ascended (p ∷ ps) = insert p (ascended ps)

-- what is saved of these buffers
unfoldable pub saved_of : Buffers → Saved
saved_of run = record { state = run.state; pages = ascended (pages_of run.pages run.bytes); words = run.words }

-- ---- to the lent buffers

unfoldable pub entries_of : List Page → List ℕ
entries_of [] = []
entries_of (p ∷ ps) = p.entry ∷ entries_of ps

unfoldable pub bytes_of : List Page → List ℕ
bytes_of [] = []
bytes_of (p ∷ ps) = p.bytes ++ bytes_of ps

-- the run of a sheet, as it is read
abbrev pub buffers_of : Saved → Buffers
buffers_of s = record { state = s.state; pages = entries_of s.pages; bytes = bytes_of s.pages; words = s.words }
