-- `fill_page` meets its contract. Assumes nothing.
use Rattle.std.proofs.Common.{arith, ◌∙◌, sym}
use Rattle.pages.proofs.Laws.{page_end}
use Rattle.sheet_read.proofs.Stages.{past_turn, past_none}
use Rattle.sheet_read.proofs.Fills.{slot_turn, slot_end}
use Rattle.sheet_read.proofs.fill.fill_page.Goals as goal

pub overflow_add-base : goal.overflow_add-base
overflow_add-base c =
    let base-is = c.page_of-base.ensures in
    let end = page_end _ c.ranges.entry.fits in
    omega arith

pub loop-slot-preserved : goal.loop-slot-preserved
loop-slot-preserved c =
    let taken = c.value-value.ensures in
    let before = c.loop-slot.invariant in (
      before.0 ∙ past_turn _ _ _ c.loop-slot-test.true _ _ taken.value taken.left,
      before.1 ∙ rw c.store.ensures.bytes_after (slot_turn _ _ _ _ _ c.loop-slot-test.true (omega (arith, c.loop-slot.auto.bytes)) _ _ taken.value taken.left),
    )

pub returns : goal.returns
returns c =
    let before = c.loop-slot.invariant in
    record {
      left = rw (← c.page_of-base.ensures) (sym (before.0 ∙ past_none _ _ _ c.loop-slot-test.false));
      filled = rw (← c.page_of-base.ensures) (sym (before.1 ∙ slot_end _ _ _ _ _ c.loop-slot-test.false));
    }
