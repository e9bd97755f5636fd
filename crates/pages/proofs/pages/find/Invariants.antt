-- `find`: the invariant of its loop. The whole search is the search from here on. Assumes nothing.
use Rattle.std.proofs.Common.{◌≡◌, drop}
use Rattle.pages.specs.Pages.{spot, spot_from}
use Rattle.pages.proofs.pages.find.Given as goal

abbrev pub invariant-loop-i : goal.invariant-loop-i
invariant-loop-i l = spot l.pages l.lent l.address ≡ spot_from l.i (drop l.i l.pages) l.lent l.address
