-- `repeated`: the invariant of its loop. The whole search is the search from here on. Assumes nothing.
use Rattle.std.proofs.Common.{◌≡◌, drop}
use Rattle.pages.specs.Pages.{repeated}
use Rattle.pages.proofs.pages.repeated.Given as goal

abbrev pub invariant-loop-i : goal.invariant-loop-i
invariant-loop-i l = repeated l.pages ≡ repeated (drop l.i l.pages)
