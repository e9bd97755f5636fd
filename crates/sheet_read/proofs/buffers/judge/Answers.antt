-- `judge` meets its contract: the tests are those of a run, on the entries that were copied. Assumes nothing.
use Rattle.std.proofs.Common.{arith, ◌≡◌, ◌∙◌, ap, sym, take}
use Rattle.numbers.proofs.Laws.{laid_front}
use Rattle.sheet_read.specs.Scan.{numbers_in}
use Rattle.sheet_read.proofs.Saved.{pages_long, few_words, too_many_pages, tested_is}
use Rattle.sheet_read.proofs.buffers.judge.Goals.{After-fill}
use Rattle.sheet_read.proofs.buffers.judge.Goals as goal

listed : (c : After-fill) → take c.args.shape.pages.count c.fill.new.out ≡ numbers_in c.args.shape.pages
listed c = ap (take c.args.shape.pages.count) c.fill.ensures ∙ laid_front _ _ c.args.shape.pages.count (pages_long c.args.shape)

pub returns-then-pages-gt-PAGE_LIMIT : goal.returns-then-pages-gt-PAGE_LIMIT
returns-then-pages-gt-PAGE_LIMIT c = sym (too_many_pages c.args.shape c.if-pages-gt-PAGE_LIMIT.true)

pub overflow_mul-shape : goal.overflow_mul-shape
overflow_mul-shape c = omega (arith, few_words c.args.shape)

pub returns : goal.returns
returns c = c.check.ensures ∙ rw (listed (goal.at.returns c).After-fill, c.is_good-good.ensures) (sym (tested_is c.args.shape))
