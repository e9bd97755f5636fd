-- `fill_pages` meets its contract. Assumes nothing.
use Rattle.std.proofs.Common.{arith, ◌∙◌, refl, sym}
use Rattle.sheet_read.proofs.Pages.{entries_start, page_laid, laid_end}
use Rattle.sheet_read.proofs.fill.fill_pages.Goals as goal

pub loop-k-init : goal.loop-k-init
loop-k-init c = rw (c.behind.ensures, entries_start) refl

pub loop-k-preserved : goal.loop-k-preserved
loop-k-preserved c =
    let taken = c.fill_page.ensures in
    let entry_is = rw (c.row.ensures.kind, c.row.ensures.text) at c.number.ensures in
    c.loop-k.invariant ∙ rw taken.filled (page_laid c.args.pages c.requires.0 _ _ c.loop-k-test.true entry_is _ _ taken.left _ (omega (arith, c.requires.1, c.loop-k.auto.bytes)))

pub returns : goal.returns
returns c = sym (c.loop-k.invariant ∙ laid_end c.args.pages _ c.loop-k-test.false _ _)
