-- `scan_plain` meets its contract. The invariant: the lines counted and those from here on are all of them. Assumes nothing.
use Rattle.std.proofs.Common.{arith, ◌≡◌, ◌<◌, ◌≤◌, true, length, drop, refl}
use Rattle.texts.specs.Fields.{lines, begins}
use Rattle.sheet.specs.Lines.{form, width}
use Rattle.sheet.specs.Reading.{plain_count}
use Rattle.sheet_read.proofs.Leads.{plain_turn, plain_end, less_left, lead_room}
use Rattle.sheet_read.proofs.Stages.{counted_end}
use Rattle.sheet_read.proofs.scan.scan_plain.Goals.{In-Some, After-behind-rest}
use Rattle.sheet_read.proofs.scan.scan_plain.Goals as goal

begun : (c : In-Some) → begins (form c.args.kind) c.loop-row.rest.now ≡ true
begun c = rw (c.in-Some.ensures.0, c.in-Some.ensures.1) at c.in-Some.row.begun

behind : (c : After-behind-rest) → c.behind-rest.result.now ≡ drop (width c.args.kind) c.loop-row.rest.now
behind c = rw (c.in-Some.ensures.0, c.in-Some.ensures.1) at c.behind-rest.ensures

less : (c : After-behind-rest) → length c.behind-rest.result.now < length c.loop-row.rest.now
less c = rw (behind c) (less_left _ _ (begun (goal.at.loop-row-smaller c).In-Some))

pub loop-row-smaller : goal.loop-row-smaller
loop-row-smaller c = less c

pub loop-row-preserved : goal.loop-row-preserved
loop-row-preserved c =
    let fewer = less c in
    let turn = rw (← behind c) at (plain_turn _ _ (begun (goal.at.loop-row-preserved c).In-Some)) in
    let before = c.loop-row.invariant in (omega (arith, before.0), omega (arith, before.1))

pub invariant_of-result : goal.invariant_of-result
invariant_of-result c =
    let stands : c.loop-row.count ≤ plain_count c.args.kind (lines c.args.text.now) = omega (arith, c.loop-row.invariant.0) in
    record { stands = stands; room = omega (arith, lead_room c.args.kind _ _ stands) }

pub returns : goal.returns
returns c = record { kind = refl; text = refl; counted = counted_end _ c.loop-row.invariant.0 (plain_end _ _ c.in_default.ensures) }
