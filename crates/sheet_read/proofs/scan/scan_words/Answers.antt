-- `scan_words` meets its contract. Assumes nothing.
use Rattle.std.proofs.Common.{◌∙◌, refl, sym}
use native.Mathlib.Nat.{zero-add}
use Rattle.sheet_read.proofs.Stages.{counted_turn, counted_end}
use Rattle.sheet_read.proofs.Pages.{entries_start, past_next, count_next, past_end, count_end}
use Rattle.sheet_read.proofs.scan.scan_words.Goals as goal

pub loop-k-init : goal.loop-k-init
loop-k-init c = rw (c.behind.ensures, entries_start) (refl, sym (zero-add _))

pub loop-k-preserved : goal.loop-k-preserved
loop-k-preserved c =
    let taken = c.skip_page.ensures in
    let before = c.loop-k.invariant in
    let entry_is = rw (c.row.ensures.kind, c.row.ensures.text) at c.number.ensures in (
      before.0 ∙ past_next c.args.pages c.requires _ _ c.loop-k-test.true entry_is _ _ taken.left,
      rw taken.count (counted_turn _ _ _ before.1 (count_next c.args.pages c.requires _ _ c.loop-k-test.true entry_is _ _ taken.left)),
    )

pub returns : goal.returns
returns c =
    let before = c.loop-k.invariant in
    record { left = sym (before.0 ∙ past_end c.args.pages _ c.loop-k-test.false _); counted = counted_end _ before.1 (count_end c.args.pages _ c.loop-k-test.false _) }
