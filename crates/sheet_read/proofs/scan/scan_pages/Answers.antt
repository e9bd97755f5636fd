-- `scan_pages` meets its contract. The invariant: the pages counted and those from here on are all of them. Assumes nothing.
use Rattle.std.proofs.Common.{arith, ◌≡◌, ◌<◌, ◌≤◌, true, length, take, drop, refl}
use Rattle.order.proofs.Laws.{number_room}
use Rattle.texts.specs.Fields.{lines, begins}
use Rattle.sheet.specs.Lines.{form, width}
use Rattle.sheet.specs.Reading.{value, plain_count, page_count}
use Rattle.sheet.specs.declared.line.Line.TheVariants.{Page}
use Rattle.sheet_read.proofs.Leads.{less_left, lead_room}
use Rattle.sheet_read.proofs.Stages.{counted_end, page_turn, page_low, page_end, pages_plain}
use Rattle.sheet_read.proofs.scan.scan_pages.Goals.{In-Some, After-number, After-behind-rest, Joined-of, in-Some+then-number-least, in_default}
use Rattle.sheet_read.proofs.scan.scan_pages.Goals as goal

begun : (c : In-Some) → begins (form Page) c.loop-row.rest.now ≡ true
begun c = rw (c.in-Some.ensures.0, c.in-Some.ensures.1) at c.in-Some.row.begun

entry : (c : After-number) → c.number.result ≡ value Page 0 (take (width Page) c.loop-row.rest.now)
entry c = rw (c.in-Some.ensures.0, c.in-Some.ensures.1) at c.number.ensures

behind : (c : After-behind-rest) → c.behind-rest.result.now ≡ drop (width Page) c.loop-row.rest.now
behind c = rw (c.in-Some.ensures.0, c.in-Some.ensures.1) at c.behind-rest.ensures

less : (c : After-behind-rest) → length c.behind-rest.result.now < length c.loop-row.rest.now
less c = rw (behind c) (less_left _ _ (begun (goal.at.loop-row-smaller c).In-Some))

-- the loop ends where no page is left to count
counted : (c : Joined-of) → c.loop-row.count ≡ page_count 0 (lines c.args.text.now)
counted c =
    counted_end _ c.loop-row.invariant.0 (elim c.match-of.branch [
      | in-Some+then-number-least w ↦ page_low c.loop-row.rest.now _ w.number.result
          (rw (w.in-Some.ensures.0, w.in-Some.ensures.1) at w.in-Some.row.begun)
          (rw (w.in-Some.ensures.0, w.in-Some.ensures.1) at w.number.ensures)
          (rw w.page_number-number.ensures at w.if-number-least.true)
      | in_default w ↦ page_end _ _ w.in_default.ensures
    ])

pub overflow_add-least : goal.overflow_add-least
overflow_add-least c = rw c.page_number-number.ensures (let room = number_room _ c.number.type_inv in omega arith)

pub loop-row-smaller : goal.loop-row-smaller
loop-row-smaller c = less c

pub loop-row-preserved : goal.loop-row-preserved
loop-row-preserved c =
    let fewer = less c in
    let line = begun (goal.at.loop-row-preserved c).In-Some in
    let above = rw c.page_number-number.ensures at c.if-number-least.false in
    let turn = rw (← behind c, ← c.page_number-number.ensures) at (page_turn _ _ _ line (entry (goal.at.loop-row-preserved c).After-number) above) in
    let before = c.loop-row.invariant in (omega (arith, before.0), omega (arith, before.1))

pub invariant_of-result : goal.invariant_of-result
invariant_of-result c =
    let plain = pages_plain 0 (lines c.args.text.now) in
    let stands : c.loop-row.count ≤ plain_count Page (lines c.args.text.now) = omega (arith, counted c) in
    record { stands = stands; room = omega (arith, lead_room Page _ _ stands) }

pub returns : goal.returns
returns c = record { kind = refl; text = refl; counted = counted (goal.at.returns c).Joined-of }
