-- The lines that are still to be laid, from a turn of each loop on. Assumes nothing.
use Prim.Native.Nat.{ℕ, suc, ◌+◌, ◌-◌, ◌*◌, ◌/◌, ◌<◌, ◌≤◌}
use mathlib.Core.Path.{◌≡◌, refl, sym, ◌∙◌, ap, ap₂}
use mathlib.Core.List.{List, [], ◌∷◌, ◌++◌}
use native.Mathlib.Omega.{arith}
use native.Mathlib.Nat.{div-eq-sub-div, div-eq_of_lt}
use native.Mathlib.Numerals.{add-one}
use lib.ListN.{length, get_or, take, drop, length-drop, length-append}
use lib.Seq.{drop-drop, take_at, drop_at}
use Rattle.numbers.specs.Numbers.{number_at}
use Rattle.pages.specs.Pages.{page_bytes, page_of}
use Rattle.order.specs.Order.{page_number}
use Rattle.order.proofs.Laws.{Nearest}
use Rattle.texts.specs.Fields.{joined}
use Rattle.sheet.specs.Lines.{field_count, line}
use Rattle.sheet.specs.Sheets.{Page, word_line, word_lines, slots, plain_lines, all_plain}
use Rattle.sheet.specs.declared.line.Line.{Line}
use Rattle.sheet.specs.declared.line.Line.TheVariants.{Page as PageLine}
use Rattle.sheet.proofs.LineLaws.{some_fields}
use Rattle.sheet_write.specs.Order.{from, Lent}
use Rattle.sheet_write.specs.Laying.{lines_of, all_lines}
use Rattle.sheet_write.specs.declared.lay.Pass.{Pass}
use Rattle.sheet_write.specs.declared.lay.Pass.TheVariants.{Entries, Values}
use Rattle.sheet_write.proofs.Ascending.{page_in, in_order, from_zero, none_left, next_left}
use Rattle.sheet_write.proofs.Turns.{one_less, none_less, later, part}
use Rattle.sheet_write.proofs.Lays.{Begins, joined_append, joined_one}

-- ---- the values of a page

-- n values, from the k-th on
abbrev pub words_from : ℕ → ℕ → List ℕ → ℕ → List ℕ
words_from base n page k = joined (word_lines (base + 8 * k) (n - k) (drop (8 * k) page))

pub words_suc : (address n : ℕ) (bytes : List ℕ) → joined (word_lines address (suc n) bytes) ≡ joined (word_line address (number_at bytes 0 8)) ++ joined (word_lines (address + 8) n (drop 8 bytes))
unfolding word_lines
words_suc address n bytes = joined_append (word_line address (number_at bytes 0 8)) (word_lines (address + 8) n (drop 8 bytes))

module _ (base n : ℕ) (page : List ℕ) where
  pub words_start : joined (word_lines base n page) ≡ words_from base n page 0
  words_start =
      let here : base ≡ base + 0 = omega arith in
      let all : n ≡ n - 0 = omega arith in
      ap₂ (λ (address left : ℕ). joined (word_lines address left page)) here all

  pub words_turn : (k value : ℕ) → k < n → value ≡ number_at (drop (8 * k) page) 0 8 → Begins (words_from base n page k) (joined (word_line (base + 8 * k) value)) (words_from base n page (k + 1))
  words_turn k value h value_is =
      let next : base + 8 * k + 8 ≡ base + 8 * (k + 1) = omega arith in
      record {
        split = ap (λ (left : ℕ). joined (word_lines (base + 8 * k) left (drop (8 * k) page))) (one_less n k h)
            ∙ words_suc (base + 8 * k) (n - (k + 1)) (drop (8 * k) page)
            ∙ rw (← value_is, next, later 8 k page);
      }

  pub words_end : (k : ℕ) → n ≤ k → words_from base n page k ≡ []
  unfolding word_lines joined
  words_end k h = ap (λ (left : ℕ). joined (word_lines (base + 8 * k) left (drop (8 * k) page))) (none_less n k h)

-- ---- plain lines

module _ (kind : Line) (numbers : List ℕ) where
  plain_suc : (n : ℕ) → joined (plain_lines kind (suc n) numbers) ≡ line kind (take (field_count kind) numbers) ++ joined (plain_lines kind n (drop (field_count kind) numbers))
  unfolding plain_lines joined
  plain_suc n = refl

  -- as many lines as there are numbers for: one, and those of the rest
  pub plain_more : field_count kind ≤ length numbers
      → joined (all_plain kind numbers) ≡ line kind (take (field_count kind) numbers) ++ joined (all_plain kind (drop (field_count kind) numbers))
  plain_more enough =
      let one : length numbers / field_count kind ≡ suc (length (drop (field_count kind) numbers) / field_count kind)
      = rw (length-drop (field_count kind) numbers) (div-eq-sub-div (some_fields kind) enough ∙ add-one _)
      in
      ap (λ (n : ℕ). joined (plain_lines kind n numbers)) one ∙ plain_suc (length (drop (field_count kind) numbers) / field_count kind)

  pub plain_none : length numbers < field_count kind → joined (all_plain kind numbers) ≡ []
  unfolding plain_lines joined
  plain_none few = ap (λ (n : ℕ). joined (plain_lines kind n numbers)) (div-eq_of_lt few)

-- the numbers of one line, and the others
pub plain_piece : (kind : Line) (piece rest : List ℕ) → length piece ≡ field_count kind → Begins (joined (all_plain kind (piece ++ rest))) (line kind piece) (joined (all_plain kind rest))
plain_piece kind piece rest whole =
    let enough : field_count kind ≤ length (piece ++ rest) = rw length-append (omega arith) in
    record {
      split = plain_more kind (piece ++ rest) enough
          ∙ ap₂ (λ (own later : List ℕ). line kind own ++ joined (all_plain kind later)) (take_at piece rest (field_count kind) whole) (drop_at piece rest (field_count kind) whole);
    }

-- ---- the pages

-- those with no page number below `least`
abbrev pub pages_from : Pass → List ℕ → List ℕ → ℕ → List ℕ
pages_from pass entries bytes least = joined (all_lines pass (from least (in_order entries bytes)))

pub pages_cons : (pass : Pass) (p : Page) (ps : List Page) → Begins (joined (all_lines pass (p ∷ ps))) (joined (lines_of pass p)) (joined (all_lines pass ps))
unfolding all_lines
pages_cons pass p ps = record { split = joined_append (lines_of pass p) (all_lines pass ps) }

module _ (entries bytes : List ℕ) (least place : ℕ) (nearest : Nearest entries least (length entries) place) (lent : Lent entries bytes) where
  next_page_lem : from least (in_order entries bytes) ≡ page_in entries bytes place ∷ from (page_number (get_or entries place 0) + 1) (in_order entries bytes)
  next_page_lem =
      next_left entries bytes least place nearest.inside nearest.own
      (λ i inside other at.
      let behind = nearest.first i inside at in
      let apart : page_number (get_or entries i 0) ≡ page_number (get_or entries place 0) → ⊥ = λ e. other (lent.apart i place inside nearest.inside e) in
      omega arith)

  module _ (page_number_lem : ℕ) (page-number-is : page_number_lem ≡ page_number (get_or entries place 0)) where
    -- the page as the code lends it
    pub pages_turn : (pass : Pass)
        → Begins (pages_from pass entries bytes least)
        (joined (lines_of pass (record { entry = get_or entries place 0; bytes = take (page_bytes * place + page_bytes - page_bytes * place) (drop (page_bytes * place) bytes) })))
        (pages_from pass entries bytes (page_number_lem + 1))
    pages_turn pass =
        rw (page-number-is, part (page_bytes * place) page_bytes bytes, next_page_lem)
        (pages_cons pass (page_in entries bytes place) (from (page_number (get_or entries place 0) + 1) (in_order entries bytes)))

    pub pages_less : length (from (page_number_lem + 1) (in_order entries bytes)) < length (from least (in_order entries bytes))
    pages_less = rw page-number-is (let one = ap length next_page_lem in omega arith)

pub pages_end : (entries bytes : List ℕ) (least : ℕ) → ((i : ℕ) → i < length entries → page_number (get_or entries i 0) < least) → (pass : Pass) → pages_from pass entries bytes least ≡ []
unfolding all_lines joined
pages_end entries bytes least below pass = rw (none_left entries bytes least below)

pub pages_start : (pass : Pass) (entries bytes : List ℕ) → joined (all_lines pass (in_order entries bytes)) ≡ pages_from pass entries bytes 0
pages_start pass entries bytes = ap (λ (ps : List Page). joined (all_lines pass ps)) (sym (from_zero (in_order entries bytes)))

-- ---- one page

-- its line
pub entry_text : (pass : Pass) (entry : ℕ) (page : List ℕ) → pass ≡ Entries → joined (lines_of pass (record { entry = entry; bytes = page })) ≡ line PageLine (entry ∷ [])
entry_text pass entry page e = rw e (joined_one (line PageLine (entry ∷ [])))

-- its values
pub values_text : (pass : Pass) (entry : ℕ) (page : List ℕ) (base : ℕ) → pass ≡ Values → base ≡ page_of entry
    → joined (lines_of pass (record { entry = entry; bytes = page })) ≡ joined (word_lines base slots page)
values_text pass entry page base e base-is = rw (e, base-is)
