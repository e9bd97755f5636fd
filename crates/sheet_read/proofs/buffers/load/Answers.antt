-- `load` meets its contract: the test is that of the definition, and every buffer is filled where it holds. Assumes nothing.
use Rattle.std.proofs.Common.{arith, ◌≡◌, ◌∙◌, sym, length}
use Rattle.sheet.specs.Lent.{Buffers}
use Rattle.sheet_read.specs.Reads.{sizes_of}
use Rattle.sheet_read.specs.Scan.{sizes_at, room_for}
use Rattle.sheet_read.proofs.Saved.{room_parts, few_words, too_long, loaded}
use Rattle.sheet_read.proofs.buffers.load.Goals.{After-fits}
use Rattle.sheet_read.proofs.buffers.load.Goals as goal

-- the buffers as they were lent
abbrev lent : After-fits → Buffers
lent c = record { state = c.args.state.now; pages = c.args.pages.now; bytes = c.args.bytes.now; words = c.args.words.now }

-- what was tested of them
tested : (c : After-fits) → c.fits.result ≡ room_for (sizes_at c.args.shape) (length (lent c).state) (sizes_of (lent c))
tested c = c.fits.ensures

pub overflow_mul-sizes-2 : goal.overflow_mul-sizes-2
overflow_mul-sizes-2 c = omega (arith, few_words c.args.shape)

pub returns-then-not-fits : goal.returns-then-not-fits
returns-then-not-fits c =
    let at = (goal.at.returns-then-not-fits c).After-fits in
    sym (too_long c.args.shape (lent at) (sym (tested at) ∙ c.if-not-fits.true))

pub fill_all-requires : goal.fill_all-requires
fill_all-requires c = room_parts _ _ _ (sym (tested (goal.at.fill_all-requires c).After-fits) ∙ c.if-not-fits.false)

pub returns : goal.returns
returns c =
    let at = (goal.at.returns c).After-fits in
    sym (loaded c.args.shape (lent at) (sym (tested at) ∙ c.if-not-fits.false) _ c.fill_all.ensures)
