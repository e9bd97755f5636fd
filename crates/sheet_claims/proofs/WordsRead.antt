-- The words of printed pages, read back. Assumes nothing.
use Rattle.std.proofs.Common.{◌≡◌, ℕ, zero, suc, ◌+◌, ◌*◌, ◌/◌, ◌^◌, ◌<◌, ◌≤◌, Bool, true, false, cond, eqb, List, [], ◌∷◌, ◌++◌, length, drop, sym, refl, ap, ◌∙◌, append_assoc, arith, length-drop, take-append-drop, eqb-true}
use borrow.Author.Tests.{eqb-false}
use Rattle.numbers.specs.Numbers.{number_at}
use Rattle.pages.specs.Pages.{page_of}
use Rattle.pages.proofs.Laws.{page_and_offset, page_end}
use Rattle.texts.specs.Digits.{Below}
use Rattle.sheet.specs.Lines.{line}
use Rattle.sheet.specs.Sheets.{Page, Ascending, WholePages, word_line, word_lines, slots, pages_words, entries_of}
use Rattle.order.specs.Order.{page_number}
use Rattle.sheet.specs.Reading.{next, is_word, slot_value, past_slot, slot_bytes, past_slots, pages_in, past_pages}
use Rattle.sheet.specs.declared.line.Line.TheVariants.{Word}
use Rattle.sheet_claims.proofs.Bytes.{below_drop, little_below, bytes_of_little}
use Rattle.sheet_claims.proofs.LineKinds.{word_values, is_word_lem, other_word}

-- ---- the next line

next_of_slot : (P : List ℕ → Type 0) (address v : ℕ) (more : List (List ℕ)) → P (line Word (address ∷ v ∷ [])) → P (next more) → P (next (word_line address v ++ more))
next_of_slot P address v more here last = go (eqb v 0)
  where
    go : (t : Bool) → P (next (cond t [] (line Word (address ∷ v ∷ []) ∷ []) ++ more))
    go true = last
    go false = here

-- What holds of the next line behind some words, and of each line that they may have, holds of the next line.
next_of_slots : (P : List ℕ → Type 0) (address n : ℕ) (bytes : List ℕ) (rest : List (List ℕ)) → Below 256 bytes
    → ((a v : ℕ) → address ≤ a → a < address + 8 * n → v < 2 ^ 64 → P (line Word (a ∷ v ∷ []))) → P (next rest) → P (next (word_lines address n bytes ++ rest))
unfolding word_lines
next_of_slots P address zero bytes rest small each last = last
next_of_slots P address (suc n) bytes rest small each last =
    rw append_assoc
    (next_of_slot P address (number_at bytes 0 8) (word_lines (address + 8) n (drop 8 bytes) ++ rest) (each address (number_at bytes 0 8) (omega arith) (omega arith) (little_below 8 bytes small))
    (next_of_slots P (address + 8) n (drop 8 bytes) rest (below_drop 256 8 bytes small) (λ a v low high. each a v (omega arith) (omega arith)) last))

pub next_of_pages : (P : List ℕ → Type 0) (least : ℕ) (ps : List Page) (rest : List (List ℕ)) → Ascending least ps → WholePages ps
    → ((a v : ℕ) → 4096 * least ≤ a → a < 2 ^ 64 → v < 2 ^ 64 → P (line Word (a ∷ v ∷ []))) → P (next rest) → P (next (pages_words ps ++ rest))
unfolding pages_words Ascending WholePages page_number
next_of_pages P least [] rest up whole each last = last
next_of_pages P least (p ∷ ps) rest up whole each last =
    let low : least ≤ p.entry / 4096 = up.0 in
    let first = page_and_offset p.entry in
    let end = page_end p.entry whole.0.entry in
    rw append_assoc
    (next_of_slots P (page_of p.entry) slots p.bytes (pages_words ps ++ rest) whole.0.bytes (λ a v near far. each a v (omega arith) (omega arith))
    (next_of_pages P (suc (page_number p.entry)) ps rest up.1 whole.1 (λ a v near. each a v (omega arith)) last))

-- ---- one value

module _ (address v : ℕ) (more : List (List ℕ)) (address-small : address < 2 ^ 64) (small : v < 2 ^ 64) (other : is_word address (next more) ≡ false) where
  slot_read : (slot_value address (word_line address v ++ more) ≡ v) × (past_slot address (word_line address v ++ more) ≡ more)
  unfolding slot_value past_slot
  slot_read = go (eqb v 0) refl
    where
      go : (t : Bool) → eqb v 0 ≡ t
          → let ls : List (List ℕ) = cond t [] (line Word (address ∷ v ∷ []) ∷ []) ++ more in
          (slot_value address ls ≡ v) × (past_slot address ls ≡ more)
      go true e = rw other (sym (eqb-true v 0 e), refl)
      go false e = rw (is_word_lem address v address-small small (eqb-false v 0 e), word_values address v address-small small) (refl, refl)

-- ---- the values of a page, and of all pages

-- the word that follows is of none of these addresses
abbrev Behind : ℕ → List (List ℕ) → Type 0
Behind end rest = (a : ℕ) → a < end → is_word a (next rest) ≡ false

slots_read : (address n : ℕ) (bytes : List ℕ) (rest : List (List ℕ)) → address + 8 * n ≤ 2 ^ 64 → length bytes ≡ 8 * n → Below 256 bytes → Behind (address + 8 * n) rest
    → (slot_bytes address n (word_lines address n bytes ++ rest) ≡ bytes) × (past_slots address n (word_lines address n bytes ++ rest) ≡ rest)
unfolding word_lines slot_bytes past_slots
slots_read address zero [] rest fits long small behind = (refl, refl)
slots_read address zero (b ∷ bytes) rest fits long small behind = absurd (omega arith)
slots_read address (suc n) bytes rest fits long small behind =
    let more : List (List ℕ) = word_lines (address + 8) n (drop 8 bytes) ++ rest in
    let v_small : number_at bytes 0 8 < 2 ^ 64 = little_below 8 bytes small in
    let next_other : is_word address (next more) ≡ false
    = next_of_slots (λ l. is_word address l ≡ false) (address + 8) n (drop 8 bytes) rest (below_drop 256 8 bytes small)
    (λ a v near far v-fits. other_word a v (omega arith) v-fits address (omega arith)) (behind address (omega arith)) in
    let here = slot_read address (number_at bytes 0 8) more (omega arith) v_small next_other in
    let after = slots_read (address + 8) n (drop 8 bytes) rest (omega arith) (simp length-drop (omega arith)) (below_drop 256 8 bytes small) (λ a near. behind a (omega arith)) in
    rw (append_assoc, here.0, here.1, after.0, after.1, bytes_of_little 8 bytes (omega arith) small, take-append-drop 8 bytes) (refl, refl)

pub pages_read : (least : ℕ) (ps : List Page) (rest : List (List ℕ)) → Ascending least ps → WholePages ps → ((a : ℕ) → is_word a (next rest) ≡ false)
    → (pages_in (entries_of ps) (pages_words ps ++ rest) ≡ ps) × (past_pages (entries_of ps) (pages_words ps ++ rest) ≡ rest)
unfolding pages_words Ascending WholePages pages_in past_pages entries_of
pages_read least [] rest up whole other = (refl, refl)
pages_read least (p ∷ ps) rest up whole other =
    let more : List (List ℕ) = pages_words ps ++ rest in
    let first = page_and_offset p.entry in
    let behind : Behind (page_of p.entry + 8 * slots) more
    = λ a near. next_of_pages (λ l. is_word a l ≡ false) (suc (page_number p.entry)) ps rest up.1 whole.1
    (λ b v far b-fits v-fits. other_word b v b-fits v-fits a (unfold page_number in omega arith)) (other a) in
    let here = slots_read (page_of p.entry) slots p.bytes more (page_end p.entry whole.0.entry) whole.0.long whole.0.bytes behind in
    let after = pages_read (suc (page_number p.entry)) ps rest up.1 whole.1 other in
    (rw (append_assoc, here.0, here.1, after.0), rw append_assoc (ap (past_pages (entries_of ps)) here.1 ∙ after.1))
