-- The text of a sheet has the lines that were printed. Assumes nothing.
use Rattle.std.proofs.Common.{◌≡◌, ℕ, zero, suc, ◌+◌, ◌*◌, ◌/◌, ◌%◌, ◌^◌, ◌<◌, ◌≤◌, Bool, true, false, cond, eqb, List, [], ◌∷◌, ◌++◌, length, take, drop, refl, arith}
use Rattle.numbers.specs.Numbers.{number_at}
use Rattle.pages.specs.Pages.{page_of}
use Rattle.pages.proofs.Laws.{page_end}
use Rattle.texts.specs.Digits.{Below}
use Rattle.texts.specs.Fields.{lines}
use Rattle.sheet.specs.Lines.{field_count, line}
use Rattle.sheet.specs.Sheets.{Page, Saved, Sheeted, WholePages, word_line, word_lines, slots, pages_words, page_lines, plain_lines, all_plain, version, sheet_lines, text}
use Rattle.sheet.specs.declared.line.Line.{Line}
use Rattle.sheet.specs.declared.line.Line.TheVariants.{Sheet, State, Page as PageLine, Word, Do}
use Rattle.sheet.proofs.LineLaws.{is_line_line, LinesOnly, lines_joined}
use Rattle.sheet_claims.proofs.Bytes.{below_drop, little_below}
use Rattle.sheet_claims.proofs.Plain.{filled, own_long, own_small, rest_long, rest_small}
use Rattle.sheet_claims.proofs.LineKinds.{one_below, word_line_lem}

only_printed : (kind : Line) (vs : List ℕ) (ls : List (List ℕ)) → length vs ≡ field_count kind → Below (2 ^ 64) vs → LinesOnly ls → LinesOnly (line kind vs ∷ ls)
unfolding LinesOnly
only_printed kind vs ls long small rest = ((kind, is_line_line kind vs long small), rest)

only_append : (ls more : List (List ℕ)) → LinesOnly ls → LinesOnly more → LinesOnly (ls ++ more)
unfolding LinesOnly
only_append [] more first rest = rest
only_append (l ∷ ls) more first rest = (first.0, only_append ls more first.1 rest)

only_slot : (address v : ℕ) → address < 2 ^ 64 → v < 2 ^ 64 → LinesOnly (word_line address v)
unfolding LinesOnly
only_slot address v address-small small = go (eqb v 0)
  where
    go : (t : Bool) → LinesOnly (cond t [] (line Word (address ∷ v ∷ []) ∷ []))
    go true = tt
    go false = ((Word, word_line_lem address v address-small small), tt)

only_slots : (address n : ℕ) (bytes : List ℕ) → address + 8 * n ≤ 2 ^ 64 → Below 256 bytes → LinesOnly (word_lines address n bytes)
unfolding LinesOnly word_lines
only_slots address zero bytes fits small = tt
only_slots address (suc n) bytes fits small =
    only_append (word_line address (number_at bytes 0 8)) (word_lines (address + 8) n (drop 8 bytes)) (only_slot address (number_at bytes 0 8) (omega arith) (little_below 8 bytes small))
    (only_slots (address + 8) n (drop 8 bytes) (omega arith) (below_drop 256 8 bytes small))

only_words : (ps : List Page) → WholePages ps → LinesOnly (pages_words ps)
unfolding LinesOnly pages_words WholePages
only_words [] whole = tt
only_words (p ∷ ps) whole =
    only_append (word_lines (page_of p.entry) slots p.bytes) (pages_words ps)
    (only_slots (page_of p.entry) slots p.bytes (page_end p.entry whole.0.entry) whole.0.bytes)
    (only_words ps whole.1)

only_pages : (ps : List Page) (ls : List (List ℕ)) → WholePages ps → LinesOnly ls → LinesOnly (page_lines ps ++ ls)
unfolding page_lines WholePages
only_pages [] ls whole rest = rest
only_pages (p ∷ ps) ls whole rest = only_printed PageLine (p.entry ∷ []) (page_lines ps ++ ls) refl (one_below p.entry whole.0.entry) (only_pages ps ls whole.1 rest)

only_plain : (kind : Line) (n : ℕ) (ns : List ℕ) → length ns ≡ field_count kind * n → Below (2 ^ 64) ns → LinesOnly (plain_lines kind n ns)
unfolding LinesOnly plain_lines
only_plain kind zero ns long small = tt
only_plain kind (suc n) ns long small =
    only_printed kind (take (field_count kind) ns) (plain_lines kind n (drop (field_count kind) ns)) (own_long kind n ns long small) (own_small kind n ns long small)
    (only_plain kind n (drop (field_count kind) ns) (rest_long kind n ns long small) (rest_small kind n ns long small))

only_all : (kind : Line) (ns : List ℕ) → length ns % field_count kind ≡ 0 → Below (2 ^ 64) ns → LinesOnly (all_plain kind ns)
only_all kind ns whole small = only_plain kind (length ns / field_count kind) ns (filled kind ns whole) small

pub lines_of_text : (s : Saved) → Sheeted s → lines (text s) ≡ sheet_lines s
unfolding sheet_lines text
lines_of_text s h =
    lines_joined (sheet_lines s)
    (only_printed Sheet (version ∷ []) _ refl (one_below version (omega arith))
    (only_printed State s.state _ h.fields h.state
    (only_pages s.pages _ h.pages
    (only_append (pages_words s.pages) (all_plain Do s.words) (only_words s.pages h.pages) (only_all Do s.words h.whole h.words)))))
