-- `number`: the invariant of its loop. The value holds the bytes from the k-th on. Assumes nothing.
use Rattle.std.proofs.Common.{length}
use Rattle.pages.specs.Pages.{spot}
use Rattle.accesses.proofs.Numbers.{Built}
use Rattle.accesses.proofs.load.number.Given as goal

abbrev pub invariant-loop-k : goal.invariant-loop-k
invariant-loop-k l = Built (spot l.pages (length l.bytes)) l.bytes l.width l.first l.initial.k l.value l.k
