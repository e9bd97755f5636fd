-- `fill_all` meets its contract: each part is laid into its buffer. Assumes nothing.
use Rattle.std.proofs.Common.{sym}
use Rattle.sheet_read.proofs.Saved.{filled_is}
use Rattle.sheet_read.proofs.buffers.fill_all.Goals as goal

pub returns : goal.returns
returns c = rw (c.fill.ensures, c.fill-2.ensures, c.fill_pages.ensures, c.fill-3.ensures) (sym (filled_is c.args.shape _))
