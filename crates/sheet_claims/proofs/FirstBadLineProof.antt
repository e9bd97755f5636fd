-- The refused line is the first that no sheet has. Assumes nothing.
use Rattle.std.proofs.Common.{◌≡◌, ℕ, zero, suc, ◌-◌, ◌^◌, ◌<◌, ◌≤◌, List, [], ◌∷◌, ◌++◌, length, get_or, take, drop, replicate, sym, refl, ap, ◌∙◌, true≢false, add-one, arith, take-append-drop, get_or-drop, get_or-take}
use lib.Seq.{append_snoc, take-append-add, take-append_seam, take-length}
use Rattle.texts.specs.Digits.{Below}
use Rattle.texts.specs.Fields.{lines}
use Rattle.sheet.specs.Lines.{field_count, line, is_line}
use Rattle.sheet.specs.Sheets.{Saved, Sheeted, Ascending, WholePages, version, sheet_lines, text}
use Rattle.sheet.specs.Reading.{next, Stages, stages, parsed}
use Rattle.sheet.specs.declared.line.Line.TheVariants.{Sheet, State}
use Rattle.sheet.proofs.LineLaws.{is_line_line}
use Rattle.sheet_claims.specs.FirstBadLine.{FromOne, Before, NotHere}
use Rattle.sheet_claims.proofs.Bytes.{below_none, below_cons}
use Rattle.sheet_claims.proofs.LineKinds.{is_head, head_read}
use Rattle.sheet_claims.proofs.LookAhead.{stages_stop}
use Rattle.sheet_claims.proofs.Outcomes.{Outcome, no_head, no_state, whole, stopped, outcome}
use Rattle.sheet_claims.proofs.SheetLines.{lines_of_text}
use Rattle.sheet_claims.proofs.StagesRead.{stages_read}

pub from_one : FromOne
unfolding parsed
from_one t n e = by (outcome (lines t))
  where
    by : Outcome (lines t) → 1 ≤ n
    by (no_head h at) = let n_is : n ≡ 1 = cc in omega arith
    by (no_state first h at) = let n_is : n ≡ 2 = cc in omega arith
    by (whole s h lines_are read) = absurd cc
    by (stopped s l rest h lines_are left at) = let n_is : n ≡ suc (length (sheet_lines s)) = cc in omega arith

-- ---- the lines before it

zeros : (n : ℕ) → Below (2 ^ 64) (replicate n 0)
zeros zero = below_none (2 ^ 64) (omega arith)
zeros (suc n) = below_cons (2 ^ 64) 0 (replicate n 0) (omega arith) (zeros n)

-- a sheet with nothing in it
blank : Saved
blank = record { state = replicate (field_count State) 0; pages = []; words = [] }

blank_sheeted : Sheeted blank
unfolding blank Ascending WholePages
blank_sheeted = record { fields = refl; state = zeros (field_count State); ascending = tt; pages = tt; whole = refl; words = below_none (2 ^ 64) (omega arith) }

pub before : Before
unfolding parsed sheet_lines
before t n e = by (outcome (lines t))
  where
    by : Outcome (lines t) → (s : Saved) × Sheeted s × (take (n - 1) (lines (text s)) ≡ take (n - 1) (lines t))
    by (no_head h at) = let n_is : n ≡ 1 = cc in (blank, blank_sheeted, rw n_is)
    by (no_state first h at) = let n_is : n ≡ 2 = cc in (blank, blank_sheeted, rw (n_is, lines_of_text blank blank_sheeted, first))
    by (whole s h lines_are read) = absurd cc
    by (stopped s l rest h lines_are left at) =
        let n_is : n - 1 ≡ length (sheet_lines s) = let n_is : n ≡ suc (length (sheet_lines s)) = cc in omega arith in
        (s, h, rw (n_is, lines_of_text s h, ← lines_are, take-append_seam (sheet_lines s) (l ∷ rest), take-length (sheet_lines s)))

-- ---- the line itself

-- lines that begin alike have the same i-th line
same_line : (i n : ℕ) (ls₁ ls₂ : List (List ℕ)) → i < n → take n ls₁ ≡ take n ls₂ → get_or ls₁ i [] ≡ get_or ls₂ i []
same_line i n ls₁ ls₂ h e = sym (get_or-take n ls₁ i [] h) ∙ ap (λ (ls : List (List ℕ)). get_or ls i []) e ∙ get_or-take n ls₂ i [] h

-- lines that begin with xs and one more line
goes_on : (xs ls : List (List ℕ)) (l : List ℕ) (rest : List (List ℕ)) → take (suc (length xs)) ls ≡ take (suc (length xs)) (xs ++ l ∷ rest) → ls ≡ xs ++ l ∷ drop (suc (length xs)) ls
goes_on xs ls l rest e =
    sym (take-append-drop (suc (length xs)) ls)
    ∙ ap (λ (front : List (List ℕ)). front ++ drop (suc (length xs)) ls) (e ∙ ap (λ (n : ℕ). take n (xs ++ l ∷ rest)) (sym (add-one (length xs))) ∙ take-append-add xs (l ∷ rest) 1)
    ∙ append_snoc xs l (drop (suc (length xs)) ls)

-- a line that is left behind the lines of one run stands behind them in no sheet
left_nowhere : (r s : Saved) (l : List ℕ) (rest other : List (List ℕ)) → Sheeted s → (stages (drop 2 (sheet_lines r ++ l ∷ rest))).left ≡ l ∷ rest → sheet_lines s ≡ sheet_lines r ++ l ∷ other → ⊥
unfolding sheet_lines
left_nowhere r s l rest other h left lines_are =
    let none : (stages (drop 2 (sheet_lines r ++ l ∷ other))).left ≡ [] = ap (λ (ls : List (List ℕ)). (stages (drop 2 ls)).left) (sym lines_are) ∙ ap (λ (q : Stages). q.left) (stages_read s h) in
    let some : length rest < length (stages (drop 2 (sheet_lines r) ++ l ∷ rest)).left = rw left (omega arith) in
    let more = rw none at (stages_stop (drop 2 (sheet_lines r)) l rest other some) in
    omega arith

pub not_here : NotHere
unfolding parsed sheet_lines
not_here t n e s h alike = by (outcome (lines t))
  where
    same : take n (sheet_lines s) ≡ take n (lines t)
    same = rw (lines_of_text s h) at alike

    by : Outcome (lines t) → ⊥
    by (no_head none at) =
        let n_is : n ≡ 1 = cc in
        let first : line Sheet (version ∷ []) ≡ next (lines t) = same_line 0 n (sheet_lines s) (lines t) (omega arith) same in
        true≢false (sym head_read ∙ ap is_head first ∙ none)
    by (no_state first none at) =
        let n_is : n ≡ 2 = cc in
        let second : line State s.state ≡ next (drop 1 (lines t)) = same_line 1 n (sheet_lines s) (lines t) (omega arith) same ∙ sym (get_or-drop 1 (lines t) 0 []) in
        true≢false (sym (is_line_line State s.state h.fields h.state) ∙ ap (is_line State) second ∙ none)
    by (whole r k lines_are read) = cc
    by (stopped r l rest k lines_are left at) =
        let n_is : n ≡ suc (length (sheet_lines r)) = cc in
        left_nowhere r s l rest (drop (suc (length (sheet_lines r))) (sheet_lines s)) h (rw (← lines_are) at left)
        (goes_on (sheet_lines r) (sheet_lines s) l rest (rw (n_is, ← lines_are) at same))
