-- The words that reading takes are those that its pages print. Assumes nothing.
use Rattle.std.proofs.Common.{◌≡◌, ℕ, zero, suc, ◌+◌, ◌*◌, ◌^◌, ◌<◌, Bool, true, false, cond, not, ◌&&◌, eqb, List, [], ◌∷◌, ◌++◌, length, refl, ap, ◌∙◌, append_assoc, arith, length-append, drop_at, eqb-true}
use mathlib.Core.Bool.{and-eq-true_iff}
use borrow.Author.Tests.{not-true}
use Rattle.numbers.specs.Numbers.{little_bytes}
use Rattle.numbers.proofs.Laws.{little_length}
use Rattle.pages.specs.Pages.{page_of}
use Rattle.texts.specs.Digits.{Below}
use Rattle.sheet.specs.Lines.{is_line, values}
use Rattle.sheet.specs.Sheets.{WholePages, word_line, word_lines, slots, pages_words}
use Rattle.sheet.specs.Reading.{value, next, is_word, slot_value, past_slot, slot_bytes, past_slots, pages_in, past_pages}
use Rattle.sheet.specs.declared.line.Line.TheVariants.{Word}
use Rattle.sheet.proofs.LineLaws.{line_values, values_below}
use Rattle.sheet_claims.proofs.Bytes.{below_none, below_append, below_first, below_rest, below_little_bytes, little_of_bytes}
use Rattle.sheet_claims.proofs.LineKinds.{word_fields, no_line, no_word}

-- ---- one value

-- a line that is taken for an address is the one that its value prints there
word_taken : (address : ℕ) (l : List ℕ) → is_word address l ≡ true → word_line address (value Word 1 l) ≡ l ∷ []
unfolding is_word
word_taken address l e =
    let is = (and-eq-true_iff (is_line Word l) (eqb (value Word 0 l) address && not (eqb (value Word 1 l) 0))).0 e in
    let fields = (and-eq-true_iff (eqb (value Word 0 l) address) (not (eqb (value Word 1 l) 0))).0 is.1 in
    let first = eqb-true (value Word 0 l) address fields.0 in
    let values_are : values Word l ≡ address ∷ value Word 1 l ∷ [] = word_fields l ∙ ap (λ (a : ℕ). a ∷ value Word 1 l ∷ []) first in
    rw (not-true (eqb (value Word 1 l) 0) fields.1, ← values_are, line_values Word l is.0)

slot_taken : (address : ℕ) (ls : List (List ℕ)) → word_line address (slot_value address ls) ++ past_slot address ls ≡ ls
unfolding slot_value past_slot
slot_taken address [] = rw (no_word address [] (no_line Word))
slot_taken address (l ∷ ls) = go (is_word address l) refl
  where
    go : (t : Bool) → is_word address l ≡ t → word_line address (cond t (value Word 1 l) 0) ++ cond t ls (l ∷ ls) ≡ l ∷ ls
    go true e = rw (word_taken address l e)
    go false e = refl

slot_small : (address : ℕ) (ls : List (List ℕ)) → slot_value address ls < 2 ^ 64
unfolding slot_value Below
slot_small address ls = go (is_word address (next ls))
  where
    go : (t : Bool) → cond t (value Word 1 (next ls)) 0 < 2 ^ 64
    go true = values_below Word (next ls) 1
    go false = omega arith

-- ---- the values of a page, and of all pages

slots_long : (address n : ℕ) (ls : List (List ℕ)) → length (slot_bytes address n ls) ≡ 8 * n
unfolding slot_bytes
slots_long address zero ls = refl
slots_long address (suc n) ls = rw (length-append, little_length, slots_long (address + 8) n (past_slot address ls)) (omega arith)

slots_small : (address n : ℕ) (ls : List (List ℕ)) → Below 256 (slot_bytes address n ls)
unfolding slot_bytes
slots_small address zero ls = below_none 256 (omega arith)
slots_small address (suc n) ls =
    below_append 256 (little_bytes 8 (slot_value address ls)) (slot_bytes (address + 8) n (past_slot address ls))
    (below_little_bytes 8 (slot_value address ls))
    (slots_small (address + 8) n (past_slot address ls))

slots_taken : (address n : ℕ) (ls : List (List ℕ)) → word_lines address n (slot_bytes address n ls) ++ past_slots address n ls ≡ ls
unfolding word_lines slot_bytes past_slots
slots_taken address zero ls = refl
slots_taken address (suc n) ls =
    let v : ℕ = slot_value address ls in
    let more : List ℕ = slot_bytes (address + 8) n (past_slot address ls) in
    rw (little_of_bytes 8 v more (slot_small address ls), drop_at (little_bytes 8 v) more 8 (little_length 8 v))
    (rw (append_assoc, slots_taken (address + 8) n (past_slot address ls)) (slot_taken address ls))

pub words_taken : (entries : List ℕ) (ls : List (List ℕ)) → pages_words (pages_in entries ls) ++ past_pages entries ls ≡ ls
unfolding pages_words pages_in past_pages
words_taken [] ls = refl
words_taken (entry ∷ entries) ls = rw (append_assoc, words_taken entries (past_slots (page_of entry) slots ls)) (slots_taken (page_of entry) slots ls)

pub pages_whole : (entries : List ℕ) (ls : List (List ℕ)) → Below (2 ^ 64) entries → WholePages (pages_in entries ls)
unfolding WholePages pages_in
pages_whole [] ls small = tt
pages_whole (entry ∷ entries) ls small = (
  record {
    entry = below_first (2 ^ 64) entry entries small;
    long = slots_long (page_of entry) slots ls;
    bytes = slots_small (page_of entry) slots ls;
  },
  pages_whole entries (past_slots (page_of entry) slots ls) (below_rest (2 ^ 64) entry entries small),
)
