-- `fits` meets its contract: its tests are those of the definition. Assumes nothing.
use Rattle.std.proofs.Common.{rules, tests}
use Rattle.sheet_read.specs.Scan.{room_for}
use Rattle.sheet_read.proofs.buffers.fits.Goals as goal

pub returns-then-sizes-room-2 : goal.returns-then-sizes-room-2
unfolding room_for
returns-then-sizes-room-2 c = search (rules, tests)

pub returns-else-sizes-room-2 : goal.returns-else-sizes-room-2
unfolding room_for
returns-else-sizes-room-2 c = search (rules, tests)
