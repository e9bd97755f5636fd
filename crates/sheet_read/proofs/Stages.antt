-- The turns of the loops that count and take lines: what each definition gives of a text, in the terms of the code. Assumes nothing.
use Prim.Native.Nat.{ℕ, zero, suc, ◌+◌, ◌-◌, ◌*◌, ◌<◌, ◌≤◌}
use mathlib.Core.Path.{◌≡◌, refl, sym, ap, ◌∙◌}
use mathlib.Core.Bool.{Bool, true, false, not, cond, ◌&&◌}
use mathlib.Core.List.{List, [], ◌∷◌, ◌++◌}
use native.Mathlib.Nat.{add-zero, zero-add}
use native.Mathlib.Numerals.{add-one, one-add}
use native.Mathlib.Omega.{arith}
use lib.ListN.{length, take, drop}
use lib.Seq.{drop-drop}
use lib.Dec.{eqb, leb}
use borrow.Author.Tests.{not-true, eqb-true, eq-eqb, ne_eqb, le-leb, lt-leb}
use Rattle.pages.specs.Pages.{page_of}
use Rattle.order.specs.Order.{page_number}
use Rattle.numbers.specs.Numbers.{little_bytes}
use Rattle.texts.specs.Fields.{lines, begins}
use Rattle.sheet.specs.Lines.{form, width, is_line}
use Rattle.sheet.specs.Sheets.{slots, line_count}
use Rattle.sheet.specs.Reading.{next, value, plain_count, page_count, is_word, slot_value, past_slot, slot_bytes, past_slots, past_pages}
use Rattle.sheet.specs.declared.line.Line.TheVariants.{Page, Word}
use Rattle.texts.proofs.DigitLaws.{both}
use Rattle.sheet.proofs.LineLaws.{next_line, lines_step, nothing_begins}
use Rattle.sheet_read.specs.Scan.{slot_count, word_count}
use Rattle.sheet_read.proofs.Leads.{front_line, plain_cons, lead_more}

-- ---- a count so far and a count from here on

pub counted_turn : (n k rest : ℕ) {whole more : ℕ} → whole ≡ n + more → more ≡ k + rest → whole ≡ n + k + rest
counted_turn n k rest e f = omega arith

pub counted_end : (n : ℕ) {whole more : ℕ} → whole ≡ n + more → more ≡ 0 → n ≡ whole
counted_end n e f = omega arith

-- ---- pages

page_cons : (least : ℕ) (l : List ℕ) (ls : List (List ℕ)) → is_line Page l ≡ true
    → page_count least (l ∷ ls) ≡ cond (leb least (page_number (value Page 0 l))) (suc (page_count (suc (page_number (value Page 0 l))) ls)) 0
unfolding page_count
page_cons least l ls h = rw h

page_other : (least : ℕ) (ls : List (List ℕ)) → is_line Page (next ls) ≡ false → page_count least ls ≡ 0
unfolding page_count
page_other least [] h = refl
page_other least (l ∷ ls) h = rw h

pub page_end : (u : List ℕ) (least : ℕ) → begins (form Page) u ≡ false → page_count least (lines u) ≡ 0
page_end u least other = page_other least (lines u) (next_line Page u ∙ other)

module _ (u : List ℕ) (least entry : ℕ) (begun : begins (form Page) u ≡ true) (entry_is : entry ≡ value Page 0 (take (width Page) u)) where
  page_here : page_count least (lines u) ≡ cond (leb least (page_number entry)) (suc (page_count (suc (page_number entry)) (lines (drop (width Page) u)))) 0
  page_here = rw (lines_step Page u begun, page_cons least (take (width Page) u) (lines (drop (width Page) u)) (front_line Page u begun), ← entry_is)

  pub page_turn : least ≤ page_number entry → page_count least (lines u) ≡ 1 + page_count (page_number entry + 1) (lines (drop (width Page) u))
  page_turn above = rw (page_here, le-leb _ _ above, add-one, one-add)

  pub page_low : page_number entry < least → page_count least (lines u) ≡ 0
  page_low low = rw (page_here, lt-leb _ _ low)

-- ascending pages are page lines
pub pages_plain : (least : ℕ) (ls : List (List ℕ)) → page_count least ls ≤ plain_count Page ls
unfolding page_count plain_count
pages_plain least [] = omega arith
pages_plain least (l ∷ ls) = go (is_line Page l) (leb least number) (pages_plain (suc number) ls)
  where
    number : ℕ
    number = page_number (value Page 0 l)

    go : (is low : Bool) → page_count (suc number) ls ≤ plain_count Page ls → cond (is && low) (suc (page_count (suc number) ls)) 0 ≤ cond is (suc (plain_count Page ls)) 0
    go true true h = omega arith
    go true false h = omega arith
    go false low h = omega arith

-- ---- words

or_zero : (v : ℕ) → cond (not (eqb v 0)) v 0 ≡ v
or_zero v = go (eqb v 0) refl
  where
    go : (b : Bool) → eqb v 0 ≡ b → cond (not b) v 0 ≡ v
    go true e = sym (eqb-true v 0 e)
    go false e = refl

-- the next line is not this address's
module _ (address : ℕ) (ls : List (List ℕ)) (other : is_word address (next ls) ≡ false) where
  pub value_none : slot_value address ls ≡ 0
  unfolding slot_value
  value_none = rw other

  pub left_none : past_slot address ls ≡ ls
  unfolding past_slot
  left_none = rw other

-- the line with which a text begins, and its numbers
module _ (u : List ℕ) (address : ℕ) where
  pub no_word : begins (form Word) u ≡ false → is_word address (next (lines u)) ≡ false
  unfolding is_word
  no_word other = rw (next_line Word u, other)

  module _ (begun : begins (form Word) u ≡ true) (own v : ℕ) (own_is : own ≡ value Word 0 (take (width Word) u)) (value_is : v ≡ value Word 1 (take (width Word) u)) where
    word_at : is_word address (next (lines u)) ≡ (eqb own address && not (eqb v 0))
    unfolding is_word
    word_at = rw (lines_step Word u begun, front_line Word u begun, own_is, value_is)

    pub other_word : (own ≡ address → ⊥) → is_word address (next (lines u)) ≡ false
    other_word other = rw (word_at, ne_eqb _ _ other)

    pub zero_word : own ≡ address → v ≡ 0 → is_word address (next (lines u)) ≡ false
    zero_word same none = rw (word_at, eq-eqb _ _ same, eq-eqb _ _ none)

    module _ (same : own ≡ address) (some : v ≡ 0 → ⊥) where
      own_word : is_word address (next (lines u)) ≡ true
      own_word = rw (word_at, eq-eqb _ _ same, ne_eqb _ _ some)

      pub word_value : v ≡ slot_value address (lines u)
      unfolding slot_value
      word_value = rw (own_word, lines_step Word u begun) value_is

      pub word_left : lines (drop (width Word) u) ≡ past_slot address (lines u)
      unfolding past_slot
      word_left = rw (own_word, lines_step Word u begun)

-- ---- how many lines are left behind those of values

-- an empty line is no word
no_line : (address : ℕ) → is_word address [] ≡ false
unfolding is_word is_line
no_line address = rw (nothing_begins Word)

module _ (address : ℕ) (l : List ℕ) (ls : List (List ℕ)) (own : is_word address l ≡ true) where
  word_line : is_line Word l ≡ true
  unfolding is_word
  word_line = (both _ _ own).0

  not_zero : eqb (value Word 1 l) 0 ≡ false
  unfolding is_word
  not_zero = not-true _ (both (eqb (value Word 0 l) address) _ (both (is_line Word l) _ own).1).1

  one_line : line_count (slot_value address (l ∷ ls)) ≡ 1
  unfolding slot_value
  one_line = rw (own, not_zero)

  one_left : past_slot address (l ∷ ls) ≡ ls
  unfolding past_slot
  one_left = rw own

slot_length : (address : ℕ) (ls : List (List ℕ)) → line_count (slot_value address ls) + length (past_slot address ls) ≡ length ls
slot_length address [] = rw (value_none address [] (no_line address), left_none address [] (no_line address))
slot_length address (l ∷ ls) = go (is_word address l) refl
  where
    go : (b : Bool) → is_word address l ≡ b → line_count (slot_value address (l ∷ ls)) + length (past_slot address (l ∷ ls)) ≡ length (l ∷ ls)
    go true e = rw (one_line address l ls e, one_left address l ls e) (omega arith)
    go false e = rw (value_none address (l ∷ ls) e, left_none address (l ∷ ls) e) (zero-add _)

-- a value takes the line that it has
slot_past : (address : ℕ) (ls : List (List ℕ)) → past_slot address ls ≡ drop (line_count (slot_value address ls)) ls
slot_past address [] = rw (value_none address [] (no_line address), left_none address [] (no_line address))
slot_past address (l ∷ ls) = go (is_word address l) refl
  where
    go : (b : Bool) → is_word address l ≡ b → past_slot address (l ∷ ls) ≡ drop (line_count (slot_value address (l ∷ ls))) (l ∷ ls)
    go true e = rw (one_line address l ls e, one_left address l ls e)
    go false e = rw (value_none address (l ∷ ls) e, left_none address (l ∷ ls) e)

-- n values take as many lines as are counted
pub slots_past : (address n : ℕ) (ls : List (List ℕ)) → past_slots address n ls ≡ drop (slot_count address n ls) ls
unfolding past_slots slot_count
slots_past address zero ls = refl
slots_past address (suc n) ls =
    let more : ℕ = slot_count (address + 8) n (past_slot address ls) in
    slots_past (address + 8) n (past_slot address ls) ∙ (ap (drop more) (slot_past address ls) ∙ drop-drop more (line_count (slot_value address ls)) ls)

pub words_past : (entries : List ℕ) (ls : List (List ℕ)) → past_pages entries ls ≡ drop (word_count entries ls) ls
unfolding past_pages word_count
words_past [] ls = refl
words_past (entry ∷ entries) ls =
    let rest : List (List ℕ) = past_slots (page_of entry) slots ls in
    words_past entries rest ∙ (ap (drop (word_count entries rest)) (slots_past (page_of entry) slots ls) ∙ drop-drop (word_count entries rest) (slot_count (page_of entry) slots ls) ls)

-- and all of these are word lines
lead_slot : (address : ℕ) (ls : List (List ℕ)) → line_count (slot_value address ls) ≤ plain_count Word ls
lead_slot address [] = rw (value_none address [] (no_line address)) (omega arith)
lead_slot address (l ∷ ls) = go (is_word address l) refl
  where
    go : (b : Bool) → is_word address l ≡ b → line_count (slot_value address (l ∷ ls)) ≤ plain_count Word (l ∷ ls)
    go true e = rw (one_line address l ls e, plain_cons Word l ls (word_line address l ls e)) (omega arith)
    go false e = rw (value_none address (l ∷ ls) e) (omega arith)

pub lead_slots : (address n : ℕ) (ls : List (List ℕ)) → slot_count address n ls ≤ plain_count Word ls
unfolding slot_count
lead_slots address zero ls = omega arith
lead_slots address (suc n) ls =
    lead_more Word (line_count (slot_value address ls)) (slot_count (address + 8) n (past_slot address ls)) ls (lead_slot address ls)
    (rw (← slot_past address ls) (lead_slots (address + 8) n (past_slot address ls)))

pub lead_words : (entries : List ℕ) (ls : List (List ℕ)) → word_count entries ls ≤ plain_count Word ls
unfolding word_count
lead_words [] ls = omega arith
lead_words (entry ∷ entries) ls =
    let rest : List (List ℕ) = past_slots (page_of entry) slots ls in
    lead_more Word (slot_count (page_of entry) slots ls) (word_count entries rest) ls (lead_slots (page_of entry) slots ls)
    (rw (← slots_past (page_of entry) slots ls) (lead_words entries rest))

pub slots_length : (address n : ℕ) (ls : List (List ℕ)) → slot_count address n ls + length (past_slots address n ls) ≡ length ls
unfolding slot_count past_slots
slots_length address zero ls = zero-add _
slots_length address (suc n) ls =
    let here = slot_length address ls in
    let more = slots_length (address + 8) n (past_slot address ls) in
    omega arith

pub words_length : (entries : List ℕ) (ls : List (List ℕ)) → word_count entries ls + length (past_pages entries ls) ≡ length ls
unfolding word_count past_pages
words_length [] ls = zero-add _
words_length (entry ∷ entries) ls =
    let here = slots_length (page_of entry) slots ls in
    let more = words_length entries (past_slots (page_of entry) slots ls) in
    omega arith

-- ---- turns over the values of a page

one_less : (slot : ℕ) → slot < slots → slots - slot ≡ suc (slots - (slot + 1))
one_less slot more = omega arith

none_more : (slot : ℕ) → slots ≤ slot → slots - slot ≡ 0
none_more slot end = omega arith

next_slot : (base slot : ℕ) → base + 8 * slot + 8 ≡ base + 8 * (slot + 1)
next_slot base slot = omega arith

module _ (base : ℕ) (ls : List (List ℕ)) where
  pub past_start : past_slots base slots ls ≡ past_slots (base + 8 * 0) (slots - 0) ls
  past_start = rw add-zero

  pub count_start : slot_count base slots ls ≡ slot_count (base + 8 * 0) (slots - 0) ls
  count_start = rw add-zero

  pub bytes_start : slot_bytes base slots ls ≡ slot_bytes (base + 8 * 0) (slots - 0) ls
  bytes_start = rw add-zero

module _ (base slot : ℕ) (ls : List (List ℕ)) where
  past_suc : (n : ℕ) → past_slots (base + 8 * slot) (suc n) ls ≡ past_slots (base + 8 * slot + 8) n (past_slot (base + 8 * slot) ls)
  unfolding past_slots
  past_suc n = refl

  count_suc : (n : ℕ)
      → slot_count (base + 8 * slot) (suc n) ls ≡ line_count (slot_value (base + 8 * slot) ls) + slot_count (base + 8 * slot + 8) n (past_slot (base + 8 * slot) ls)
  unfolding slot_count
  count_suc n = refl

  bytes_suc : (n : ℕ)
      → slot_bytes (base + 8 * slot) (suc n) ls ≡ little_bytes 8 (slot_value (base + 8 * slot) ls) ++ slot_bytes (base + 8 * slot + 8) n (past_slot (base + 8 * slot) ls)
  unfolding slot_bytes
  bytes_suc n = refl

  -- the value is read, and its line taken
  module _ (less : slot < slots) (v : ℕ) (rest : List (List ℕ)) (value_is : v ≡ slot_value (base + 8 * slot) ls) (rest_is : rest ≡ past_slot (base + 8 * slot) ls) where
    pub past_turn : past_slots (base + 8 * slot) (slots - slot) ls ≡ past_slots (base + 8 * (slot + 1)) (slots - (slot + 1)) rest
    past_turn = rw (one_less slot less, past_suc, next_slot, rest_is)

    pub count_turn : slot_count (base + 8 * slot) (slots - slot) ls ≡ line_count v + slot_count (base + 8 * (slot + 1)) (slots - (slot + 1)) rest
    count_turn = rw (one_less slot less, count_suc, next_slot, rest_is, value_is)

    pub bytes_turn : slot_bytes (base + 8 * slot) (slots - slot) ls ≡ little_bytes 8 v ++ slot_bytes (base + 8 * (slot + 1)) (slots - (slot + 1)) rest
    bytes_turn = rw (one_less slot less, bytes_suc, next_slot, rest_is, value_is)

  -- no value is left
  module _ (end : slots ≤ slot) where
    pub past_none : past_slots (base + 8 * slot) (slots - slot) ls ≡ ls
    unfolding past_slots
    past_none = rw (none_more slot end)

    pub count_none : slot_count (base + 8 * slot) (slots - slot) ls ≡ 0
    unfolding slot_count
    count_none = rw (none_more slot end)

    pub bytes_none : slot_bytes (base + 8 * slot) (slots - slot) ls ≡ []
    unfolding slot_bytes
    bytes_none = rw (none_more slot end)
