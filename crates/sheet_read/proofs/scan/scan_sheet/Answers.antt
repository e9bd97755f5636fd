-- `scan_sheet` meets its contract: its tests are those of the definition. Assumes nothing.
use Rattle.std.proofs.Common.{ℕ, arith, ◌≡◌, ◌+◌, ◌<◌, ◌^◌, ◌∙◌, List, true, false, sym, ap, subst, take, drop, Option, Some, None, Result, Err}
use Rattle.std.specs.Option.{ok_or}
use Rattle.std.proofs.lemmas.Result.{err_from_is_err_and}
use Rattle.texts.specs.Fields.{lines, begins}
use Rattle.sheet.specs.Lines.{form, width}
use Rattle.sheet.specs.Sheets.{version}
use Rattle.sheet.specs.Reading.{value, page_count}
use Rattle.sheet.specs.declared.line.Line.{Line}
use Rattle.sheet.specs.declared.line.Line.TheVariants.{Sheet, State, Page}
use Rattle.sheet_read.specs.Scan.{IsFirst, Found, saved_at}
use Rattle.sheet_read.specs.declared.row.Row.{Row}
use Rattle.sheet_read.specs.declared.scan.NoSheet.{NoSheet}
use Rattle.sheet_read.proofs.Bodies.{no_sheet_lem, other_version, known_version, no_state, whole_sheet, left_over}
use Rattle.sheet_read.proofs.scan.scan_sheet.Goals.{After-number, After-behind, In_ok-state, After-behind-2, After-scan_pages-pages, Then-not-is_empty}
use Rattle.sheet_read.proofs.scan.scan_sheet.Goals as goal

-- the row that was found, and the line of the error where none was
found : (kind : Line) (t : List ℕ) (o : Option Row) (row : Row) → o ≡ Some row → IsFirst kind t o → (row.kind ≡ kind) × (row.text.now ≡ t)
found kind t o row e first = subst (IsFirst kind t) e first

missing : (kind : Line) (t : List ℕ) (o : Option Row) → o ≡ None → IsFirst kind t o → begins (form kind) t ≡ false
missing kind t o e first = subst (IsFirst kind t) e first

line_of : (o : Option Row) (n : ℕ) (e : NoSheet) → Err e ≡ ok_or o (record { line = n }) → o ≡ None → e.line ≡ n
line_of o n e same none =
    let given : ◌≡◌ {A = Result Row NoSheet} (Err e) (Err (record { line = n })) = rw none at same in
    let inner : e ≡ record { line = n } = cc in
    ap (λ (x : NoSheet). x.line) inner

-- the line of the version
first_begun : (c : After-number) → begins (form Sheet) c.args.text.now ≡ true
first_begun c = let there = found _ _ _ _ c.in_ok-first.ensures.ok_part c.of.ensures in rw (there.0, there.1) at c.in_ok-first.first.begun

named : (c : After-number) → c.number.result ≡ value Sheet 0 (take (width Sheet) c.args.text.now)
named c = let there = found _ _ _ _ c.in_ok-first.ensures.ok_part c.of.ensures in rw (there.0, there.1) at c.number.ensures

-- the text behind it
behind_first : (c : After-behind) → c.behind.result.now ≡ drop (width Sheet) c.args.text.now
behind_first c = let there = found _ _ _ _ c.in_ok-first.ensures.ok_part c.of.ensures in rw (there.0, there.1) at c.behind.ensures

-- the line of the state, in the text that is known to have the version
state_begun : (c : In_ok-state) → begins (form State) c.behind.result.now ≡ true
state_begun c = let there = found _ _ _ _ c.in_ok-state.ensures.ok_part c.of-2.ensures in rw (there.0, there.1) at c.in_ok-state.state.begun

behind_state : (c : After-behind-2) → c.behind-2.result.now ≡ drop (width State) c.behind.result.now
behind_state c = let there = found _ _ _ _ c.in_ok-state.ensures.ok_part c.of-2.ensures in rw (there.0, there.1) at c.behind-2.ensures

pub returns-in_err-first : goal.returns-in_err-first
returns-in_err-first c =
    let p = err_from_is_err_and c.from_residual.result c.from_residual.ensures.1 in
    let none = c.in_err-first.ensures.ok_part in
    rw (p.1, p.2, line_of _ 1 _ c.in_err-first.ensures.value none) (no_sheet_lem _ (missing _ _ _ none c.of.ensures))

pub returns-then-number-ne-VERSION : goal.returns-then-number-ne-VERSION
returns-then-number-ne-VERSION c =
    let at = (goal.at.returns-then-number-ne-VERSION c).After-number in
    other_version _ (first_begun at) _ (named at) c.if-number-ne-VERSION.true

pub returns-in_err-state : goal.returns-in_err-state
returns-in_err-state c =
    let p = err_from_is_err_and c.from_residual-in_err-state.result c.from_residual-in_err-state.ensures.1 in
    let none = c.in_err-state.ensures.ok_part in
    let at = (goal.at.returns-in_err-state c).After-number in
    let known : c.number.result ≡ version = omega arith in
    rw (p.1, p.2, line_of _ 2 _ c.in_err-state.ensures.value none, known_version _ (first_begun at) _ (named at) known)
    (no_state _ (rw (behind_first (goal.at.returns-in_err-state c).After-behind) at (missing _ _ _ none c.of-2.ensures)))

-- the counts are small
few : (c : Then-not-is_empty) → c.scan_pages-pages.result.count + c.scan_words-words.result.count + c.scan_plain-steps.result.count < 2 ^ 63
few c =
    let pages = rw c.scan_pages-pages.ensures.kind at c.scan_pages-pages.result.room in
    let words = c.scan_words-words.result.room in
    let steps = rw c.scan_plain-steps.ensures.kind at c.scan_plain-steps.result.room in
    omega arith

pub overflow_add-result : goal.overflow_add-result
overflow_add-result c = omega (arith, few c)

pub overflow_add-result-then-not-is_empty : goal.overflow_add-result-then-not-is_empty
overflow_add-result-then-not-is_empty c = omega (arith, few c)

pub overflow_add-result-then-not-is_empty-2 : goal.overflow_add-result-then-not-is_empty-2
overflow_add-result-then-not-is_empty-2 c = omega (arith, few c)

-- the text behind the state, and the pages found there
pages_found : (c : After-scan_pages-pages) → c.behind-2.result.now ≡ drop (width State) c.behind.result.now
    → Found Page (page_count 0 (lines (drop (width State) c.behind.result.now))) (drop (width State) c.behind.result.now) c.scan_pages-pages.result
pages_found c rest = rw rest at c.scan_pages-pages.ensures

pub returns-then-not-is_empty : goal.returns-then-not-is_empty
returns-then-not-is_empty c =
    let at = (goal.at.returns-then-not-is_empty c).After-number in
    let known : c.number.result ≡ version = omega arith in
    let rest = behind_state (goal.at.returns-then-not-is_empty c).After-behind-2 in
    let pages = pages_found (goal.at.returns-then-not-is_empty c).After-scan_pages-pages rest in
    let end = rw c.behind-3.ensures at c.if-not-is_empty.ensures in
    known_version _ (first_begun at) _ (named at) known
    ∙ rw (← behind_first (goal.at.returns-then-not-is_empty c).After-behind)
    (left_over _ (state_begun (goal.at.returns-then-not-is_empty c).In_ok-state) _ pages _ c.scan_words-words.ensures _ c.scan_plain-steps.ensures (sym end))

pub returns : goal.returns
unfolding saved_at
returns c =
    let at = (goal.at.returns c).After-number in
    let known : c.number.result ≡ version = omega arith in
    let there = found _ _ _ _ c.in_ok-state.ensures.ok_part c.of-2.ensures in
    let rest = behind_state (goal.at.returns c).After-behind-2 in
    let pages = pages_found (goal.at.returns c).After-scan_pages-pages rest in
    let end = rw c.behind-3.ensures at c.if-not-is_empty.ensures in
    known_version _ (first_begun at) _ (named at) known
    ∙ rw (← behind_first (goal.at.returns c).After-behind, there.0, there.1)
    (whole_sheet _ (state_begun (goal.at.returns c).In_ok-state) _ pages _ c.scan_words-words.ensures _ c.scan_plain-steps.ensures (sym end))
