-- The lines that the stages take, printed again: with those that are left they are the lines that were read. Assumes nothing.
use Rattle.std.proofs.Common.{◌≡◌, ℕ, suc, ◌^◌, Bool, true, false, cond, ◌&&◌, leb, List, [], ◌∷◌, ◌++◌, length, take, drop, refl, append_assoc, arith, take-append-drop, leb-true}
use mathlib.Core.Bool.{and-eq-true_iff}
use Rattle.pages.specs.Pages.{page_of}
use Rattle.texts.specs.Digits.{Below}
use Rattle.sheet.specs.Lines.{field_count, is_line, values}
use Rattle.sheet.specs.Sheets.{Sheeted, Ascending, slots, pages_words, page_lines, all_plain}
use Rattle.order.specs.Order.{page_number}
use Rattle.sheet.specs.Reading.{value, page_count, numbers, past_slots, pages_in, past_pages, plain_count, stages}
use Rattle.sheet.specs.declared.line.Line.{Line}
use Rattle.sheet.specs.declared.line.Line.TheVariants.{State, Page as PageLine, Do}
use Rattle.sheet.proofs.LineLaws.{line_values, values_below}
use Rattle.sheet_claims.proofs.Bytes.{below_none, below_append}
use Rattle.sheet_claims.proofs.LineKinds.{one_field}
use Rattle.sheet_claims.proofs.Plain.{stage_taken, plain_whole}
use Rattle.sheet_claims.proofs.WordsTaken.{words_taken, pages_whole}

numbers_small : (kind : Line) (ls : List (List ℕ)) → Below (2 ^ 64) (numbers kind ls)
unfolding numbers
numbers_small kind [] = below_none (2 ^ 64) (omega arith)
numbers_small kind (l ∷ ls) = below_append (2 ^ 64) (values kind l) (numbers kind ls) (values_below kind l) (numbers_small kind ls)

-- ---- pages

-- pages of the entries in these lines, whatever their bytes, are ascending, and print these lines
abbrev PagesPrint : ℕ → List (List ℕ) → List (List ℕ) → Type 0
PagesPrint least taken more = Ascending least (pages_in (numbers PageLine taken) more) × (page_lines (pages_in (numbers PageLine taken) more) ≡ taken)

pages_taken : (least : ℕ) (ls more : List (List ℕ)) → PagesPrint least (take (page_count least ls) ls) more
unfolding Ascending page_lines page_count numbers pages_in
pages_taken least [] more = (tt, refl)
pages_taken least (l ∷ ls) more = go (is_line PageLine l && leb least page_number_lem) refl (pages_taken (suc page_number_lem) ls (past_slots (page_of entry) slots more))
  where
    entry : ℕ
    entry = value PageLine 0 l

    page_number_lem : ℕ
    page_number_lem = page_number entry

    go : (t : Bool) → (is_line PageLine l && leb least page_number_lem) ≡ t → PagesPrint (suc page_number_lem) (take (page_count (suc page_number_lem) ls) ls) (past_slots (page_of entry) slots more)
        → PagesPrint least (take (cond t (suc (page_count (suc page_number_lem) ls)) 0) (l ∷ ls)) more
    go true e after =
        let tests = (and-eq-true_iff (is_line PageLine l) (leb least page_number_lem)).0 e in
        let entry_is : values PageLine l ≡ entry ∷ [] = one_field PageLine l refl in
        rw entry_is ((leb-true least page_number_lem tests.1, after.0), rw (after.1, ← entry_is, line_values PageLine l tests.0))
    go false e after = (tt, refl)

-- ---- all stages

module _ (ls : List (List ℕ)) where
  abbrev behind : List (List ℕ)
  behind = drop (page_count 0 ls) ls

  abbrev entries : List ℕ
  entries = numbers PageLine (take (page_count 0 ls) ls)

  abbrev dos : List (List ℕ)
  dos = past_pages entries behind

  pub stages_taken : (page_lines (stages ls).pages ++ (pages_words (stages ls).pages ++ all_plain Do (stages ls).words)) ++ (stages ls).left ≡ ls
  unfolding stages
  stages_taken =
      rw ((pages_taken 0 ls behind).1, append_assoc, append_assoc, stage_taken Do dos, words_taken entries behind) (take-append-drop (page_count 0 ls) ls)

  pub stages_sheeted : (state : List ℕ) → length state ≡ field_count State → Below (2 ^ 64) state → Sheeted (record { state = state; pages = (stages ls).pages; words = (stages ls).words })
  unfolding stages
  stages_sheeted state ten small = record {
    fields = ten;
    state = small;
    ascending = (pages_taken 0 ls behind).0;
    pages = pages_whole entries behind (numbers_small PageLine (take (page_count 0 ls) ls));
    whole = plain_whole Do dos;
    words = numbers_small Do (take (plain_count Do dos) dos);
  }
