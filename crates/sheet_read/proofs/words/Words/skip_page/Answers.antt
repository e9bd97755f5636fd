-- `Words::skip_page` meets its contract. Assumes nothing.
use Rattle.std.proofs.Common.{ℕ, ◌+◌, arith, ◌∙◌, ap, sym}
use Rattle.pages.proofs.Laws.{page_end}
use Rattle.sheet_read.proofs.Stages.{counted_turn, counted_end, past_start, count_start, past_turn, count_turn, past_none, count_none}
use Rattle.sheet_read.proofs.words.Words.skip_page.Goals as goal

pub loop-slot-init : goal.loop-slot-init
loop-slot-init c = (past_start _ _, ap (λ (n : ℕ). c.args.self.now.count + n) (count_start _ _))

pub overflow_add-base : goal.overflow_add-base
overflow_add-base c =
    let base-is = c.page_of-base.ensures in
    let end = page_end _ c.ranges.entry.fits in
    omega arith

pub loop-slot-preserved : goal.loop-slot-preserved
loop-slot-preserved c =
    let taken = c.value.ensures in
    let before = c.loop-slot.invariant in (
      before.0 ∙ past_turn _ _ _ c.loop-slot-test.true _ _ taken.value taken.left,
      rw taken.count (counted_turn _ _ _ before.1 (count_turn _ _ _ c.loop-slot-test.true _ _ taken.value taken.left)),
    )

pub returns : goal.returns
returns c =
    let before = c.loop-slot.invariant in
    record {
      left = rw (← c.page_of-base.ensures) (sym (before.0 ∙ past_none _ _ _ c.loop-slot-test.false));
      count = rw (← c.page_of-base.ensures) (counted_end _ before.1 (count_none _ _ _ c.loop-slot-test.false));
    }
