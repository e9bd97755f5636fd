-- What a text is, from the parts found in it: the head, the stages behind it, and what is left over. Assumes nothing.
use Prim.Native.Nat.{ℕ, suc, ◌+◌, ◌*◌, ◌≤◌}
use mathlib.Core.Path.{◌≡◌, refl, sym, ap, ◌∙◌}
use mathlib.Core.Bool.{true, false}
use mathlib.Core.List.{List, [], ◌∷◌}
use native.Mathlib.Omega.{arith}
use lib.Dec.{eqb}
use lib.ListN.{length, take, drop}
use borrow.Author.Tests.{ne_eqb, eq-eqb, eqb-true}
use Rattle.std.proofs.lemmas.Bool.{false≢true}
use Rattle.texts.specs.Fields.{lines, joined, begins}
use Rattle.sheet.specs.Lines.{form, width, values}
use Rattle.sheet.specs.Sheets.{version}
use Rattle.sheet.specs.Reading.{sheet, no_sheet, value, numbers, plain_count, page_count, pages_in, stages, finished, parsed_body, parsed_by, parsed_lines, parsed}
use Rattle.sheet.specs.declared.line.Line.{Line}
use Rattle.sheet.specs.declared.line.Line.TheVariants.{Sheet, State, Page, Do}
use Rattle.texts.proofs.FormLaws.{joined_lines}
use Rattle.sheet.proofs.LineLaws.{next_line, lines_step}
use Rattle.sheet_read.specs.Scan.{behind, numbers_in, Found, Passed}
use Rattle.sheet_read.specs.declared.stage.Stage.{Stage}
use Rattle.sheet_read.specs.declared.words.Words.{Words}
use Rattle.sheet_read.proofs.Leads.{front_line, lead_lines, lead_count}
use Rattle.sheet_read.proofs.Stages.{pages_plain, words_length}

-- ---- the first two lines

module _ (t : List ℕ) where
  pub no_sheet_lem : begins (form Sheet) t ≡ false → parsed t ≡ no_sheet 1
  unfolding parsed parsed_lines
  no_sheet_lem other = rw (next_line Sheet t, other)

  module _ (begun : begins (form Sheet) t ≡ true) (v : ℕ) (v_is : v ≡ value Sheet 0 (take (width Sheet) t)) where
    head : parsed t ≡ parsed_by v (lines (drop (width Sheet) t))
    unfolding parsed parsed_lines
    head = rw (lines_step Sheet t begun, front_line Sheet t begun, v_is)

    pub other_version : (v ≡ version → ⊥) → parsed t ≡ no_sheet 1
    unfolding parsed_by
    other_version other = rw (head, ne_eqb v version other)

    pub known_version : v ≡ version → parsed t ≡ parsed_body (lines (drop (width Sheet) t))
    unfolding parsed_by
    known_version good = rw (head, good)

pub no_state : (u : List ℕ) → begins (form State) u ≡ false → parsed_body (lines u) ≡ no_sheet 2
unfolding parsed_body
no_state u other = rw (next_line State u, other)

state_and : (u : List ℕ) → begins (form State) u ≡ true
    → parsed_body (lines u) ≡ finished (values State (take (width State) u)) (suc (suc (length (lines (drop (width State) u))))) (stages (lines (drop (width State) u)))
unfolding parsed_body
state_and u begun = rw (lines_step State u begun, front_line State u begun)

-- nothing is left over where no text is left
none_left : (u : List ℕ) → eqb (length u) 0 ≡ true → eqb (length (lines u)) 0 ≡ true
unfolding lines
none_left [] end = refl
none_left (c ∷ cs) end = let none = eqb-true (length (c ∷ cs)) 0 end in absurd (omega arith)

some_left : (u : List ℕ) → eqb (length u) 0 ≡ false → eqb (length (lines u)) 0 ≡ false
unfolding joined
some_left u more = ne_eqb _ _ (λ e. go (lines u) (joined_lines u) e)
  where
    go : (ls : List (List ℕ)) → joined ls ≡ u → length ls ≡ 0 → ⊥
    go [] e none = false≢true (sym more ∙ eq-eqb (length u) 0 (sym (ap length e)))
    go (l ∷ ls) e none = omega arith

-- ---- a stage that was found

module _ (of : Line) (n : ℕ) (t : List ℕ) (stage : Stage) (found : Found of n t stage) where
  found_numbers : numbers of (take n (lines t)) ≡ numbers_in stage
  unfolding numbers_in
  found_numbers = rw (found.kind, found.text, found.counted)

  module _ (h : n ≤ plain_count of (lines t)) where
    found_behind : drop n (lines t) ≡ behind stage
    found_behind = rw (found.kind, found.text, found.counted) (sym (lead_lines of n t h))

    found_left : length (lines t) ≡ stage.count + length (behind stage)
    found_left = rw (found.kind, found.text, found.counted) (lead_count of n t h)

-- ---- all stages

module _ (u : List ℕ) (begun : begins (form State) u ≡ true)
    (pages : Stage) (p : Found Page (page_count 0 (lines (drop (width State) u))) (drop (width State) u) pages)
    (words : Words) (w : Passed pages words)
    (steps : Stage) (s : Found Do (plain_count Do (lines words.text.now)) words.text.now steps) where
  -- the text behind the state
  abbrev rest : List ℕ
  rest = drop (width State) u

  pages_lead : page_count 0 (lines rest) ≤ plain_count Page (lines rest)
  pages_lead = pages_plain 0 (lines rest)

  steps_lead : plain_count Do (lines words.text.now) ≤ plain_count Do (lines words.text.now)
  steps_lead = omega arith

  stages_are : stages (lines rest) ≡ record { pages = pages_in (numbers_in pages) (behind pages); words = numbers_in steps; left = behind steps }
  unfolding stages
  stages_are =
      rw (
        found_numbers Page _ rest pages p,
        found_behind Page _ rest pages p pages_lead,
        ← w.left,
        found_numbers Do _ words.text.now steps s,
        found_behind Do _ words.text.now steps s steps_lead,
      )

  pub whole_sheet : eqb (length (drop (width steps.kind * steps.count) steps.text.now)) 0 ≡ true
      → parsed_body (lines u) ≡ sheet (record { state = values State (take (width State) u); pages = pages_in (numbers_in pages) (behind pages); words = numbers_in steps })
  whole_sheet end = rw (state_and u begun, stages_are, none_left (drop (width steps.kind * steps.count) steps.text.now) end)

  pub left_over : eqb (length (drop (width steps.kind * steps.count) steps.text.now)) 0 ≡ false → parsed_body (lines u) ≡ no_sheet (3 + pages.count + words.count + steps.count)
  left_over more =
      let first = found_left Page _ rest pages p pages_lead in
      let second = words_length (numbers_in pages) (behind pages) in
      let same = ap length w.left in
      let counted = w.counted in
      let third = found_left Do _ words.text.now steps s steps_lead in
      rw (state_and u begun, stages_are, some_left (drop (width steps.kind * steps.count) steps.text.now) more) (ap no_sheet (omega arith))
