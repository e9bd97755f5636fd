-- `Stage::fill` meets its contract. Assumes nothing.
use Rattle.std.proofs.Common.{arith, ◌∙◌, sym}
use Rattle.sheet_read.specs.Scan.{numbers_in}
use Rattle.sheet_read.proofs.Fills.{rows_start, rows_turn, rows_end}
use Rattle.sheet_read.proofs.stage.Stage.fill.Goals as goal

pub loop-k-init : goal.loop-k-init
unfolding numbers_in
loop-k-init c = rows_start _ _ _ _

pub loop-k-preserved : goal.loop-k-preserved
loop-k-preserved c =
    c.loop-k.invariant
    ∙ rw (c.fill.ensures, c.row.ensures.kind, c.row.ensures.text, c.count.ensures)
    (rows_turn _ _ _ _ _ c.loop-k-test.true c.args.self.stands (omega (arith, c.loop-k.auto.out)))

pub returns : goal.returns
returns c = sym (c.loop-k.invariant ∙ rows_end _ _ _ _ _ c.loop-k-test.false)
