-- The four ways in which reading some lines ends, each with what the lines then are. Assumes nothing.
use Rattle.std.proofs.Common.{◌≡◌, ℕ, suc, ◌-◌, Bool, true, false, eqb, List, [], ◌∷◌, ◌++◌, length, take, drop, sym, refl, ap, ◌∙◌, ap₂, true≢false, append-nil, arith, length-append, length-drop, drop-drop, eqb-true}
use mathlib.Core.Bool.{and-eq-true_iff}
use lib.Dec.{eqb-suc-zero}
use Rattle.sheet.specs.Lines.{line, is_line, values}
use Rattle.sheet.specs.Sheets.{Saved, Sheeted, version, sheet_lines}
use Rattle.sheet.specs.Reading.{sheet, no_sheet, value, next, stages, parsed_body, parsed_lines}
use Rattle.sheet.specs.declared.line.Line.TheVariants.{Sheet, State}
use Rattle.sheet.proofs.LineLaws.{line_values, values_count, values_below}
use Rattle.sheet_claims.proofs.LineKinds.{no_line, one_field, is_head, head_parsed}
use Rattle.sheet_claims.proofs.StagesTaken.{stages_taken, stages_sheeted}

-- no `sheet` line; no `state` line; all lines are those of a run; or a line is left behind those of a run
pub data Outcome (ls : List (List ℕ)) : Type 0 where
  no_head : is_head (next ls) ≡ false → parsed_lines ls ≡ no_sheet 1 → Outcome ls
  no_state : take 1 ls ≡ line Sheet (version ∷ []) ∷ [] → is_line State (next (drop 1 ls)) ≡ false → parsed_lines ls ≡ no_sheet 2 → Outcome ls
  whole : (s : Saved) → Sheeted s → sheet_lines s ≡ ls → parsed_lines ls ≡ sheet s → Outcome ls
  stopped : (s : Saved) (l : List ℕ) (rest : List (List ℕ)) → Sheeted s → sheet_lines s ++ l ∷ rest ≡ ls → (stages (drop 2 ls)).left ≡ l ∷ rest
      → parsed_lines ls ≡ no_sheet (suc (length (sheet_lines s))) → Outcome ls

-- ---- the first two lines

head_line : (l : List ℕ) → is_head l ≡ true → line Sheet (version ∷ []) ≡ l
unfolding is_head
head_line l e =
    let tests = (and-eq-true_iff (is_line Sheet l) (eqb (value Sheet 0 l) version)).0 e in
    ap (line Sheet) (sym (one_field Sheet l refl ∙ ap (λ (v : ℕ). v ∷ []) (eqb-true (value Sheet 0 l) version tests.1))) ∙ line_values Sheet l tests.0

first_one : (ls : List (List ℕ)) → is_head (next ls) ≡ true → take 1 ls ≡ line Sheet (version ∷ []) ∷ []
unfolding is_head
first_one [] e = absurd (true≢false (sym (rw no_line at e)))
first_one (l ∷ ls) e = rw (head_line l e)

first_two : (ls : List (List ℕ)) → is_head (next ls) ≡ true → is_line State (next (drop 1 ls)) ≡ true
    → line Sheet (version ∷ []) ∷ line State (values State (next (drop 1 ls))) ∷ drop 2 ls ≡ ls
unfolding is_head
first_two [] e f = absurd (true≢false (sym (rw no_line at e)))
first_two (l ∷ []) e f = absurd (true≢false (sym f ∙ no_line State))
first_two (l ∷ k ∷ ls) e f = ap₂ (λ (a b : List ℕ). a ∷ b ∷ ls) (head_line l e) (line_values State k f)

-- ---- the lines behind them

module _ (ls : List (List ℕ)) (e : is_head (next ls) ≡ true) (f : is_line State (next (drop 1 ls)) ≡ true) where
  abbrev s : Saved
  s = record { state = values State (next (drop 1 ls)); pages = (stages (drop 2 ls)).pages; words = (stages (drop 2 ls)).words }

  sheeted : Sheeted s
  sheeted = stages_sheeted (drop 2 ls) (values State (next (drop 1 ls))) (values_count State (next (drop 1 ls))) (values_below State (next (drop 1 ls)))

  all_lines : sheet_lines s ++ (stages (drop 2 ls)).left ≡ ls
  unfolding sheet_lines
  all_lines = ap (λ (rest : List (List ℕ)). line Sheet (version ∷ []) ∷ line State (values State (next (drop 1 ls))) ∷ rest) (stages_taken (drop 2 ls)) ∙ first_two ls e f

  both_there : Outcome ls
  unfolding parsed_body
  both_there = by (stages (drop 2 ls)).left refl
    where
      by : (left : List (List ℕ)) → (stages (drop 2 ls)).left ≡ left → Outcome ls
      by [] none = whole s sheeted (sym (append-nil (sheet_lines s)) ∙ (rw none at all_lines)) (head_parsed ls ∙ rw (e, f, drop-drop 1 1 ls, none))
      by (l ∷ rest) some =
          let lines_are : sheet_lines s ++ l ∷ rest ≡ ls = rw some at all_lines in
          let taken : suc (length (drop 1 ls)) - suc (length rest) ≡ length (sheet_lines s)
          = let n = simp length-append at (ap length lines_are) in let behind = length-drop 1 ls in omega arith
          in
          stopped s l rest sheeted lines_are some (head_parsed ls ∙ rw (e, f, drop-drop 1 1 ls, some, eqb-suc-zero (length rest), taken))

pub outcome : (ls : List (List ℕ)) → Outcome ls
unfolding parsed_body
outcome ls = by (is_head (next ls)) refl (is_line State (next (drop 1 ls))) refl
  where
    by : (h : Bool) → is_head (next ls) ≡ h → (t : Bool) → is_line State (next (drop 1 ls)) ≡ t → Outcome ls
    by false e t f = no_head e (head_parsed ls ∙ rw e)
    by true e false f = no_state (first_one ls e) f (head_parsed ls ∙ rw (e, f))
    by true e true f = both_there ls e f
