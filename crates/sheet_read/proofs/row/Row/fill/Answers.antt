-- `Row::fill` meets its contract. Assumes nothing.
use Rattle.std.proofs.Common.{arith, ◌∙◌, sym}
use Rattle.sheet_read.proofs.Fills.{number_start, number_turn, number_end}
use Rattle.sheet_read.proofs.row.Row.fill.Goals as goal

pub loop-i-init : goal.loop-i-init
loop-i-init c = number_start _ _ _ _

pub loop-i-preserved : goal.loop-i-preserved
loop-i-preserved c =
    let less = rw c.count-i-end.ensures at c.loop-i-test.true in
    c.loop-i.invariant ∙ number_turn _ _ _ _ _ _ less (omega (arith, c.loop-i.auto.out)) c.number.ensures

pub returns : goal.returns
returns c = sym (c.loop-i.invariant ∙ number_end _ _ _ _ _ (rw c.count-i-end.ensures at c.loop-i-test.false))
