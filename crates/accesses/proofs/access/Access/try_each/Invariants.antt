-- `Access::try_each`: which test the scan asks, by what the closure reads: the pages, how many bytes are lent, the kind. Assumes nothing.
use Rattle.pages.specs.Pages.{spot}
use Rattle.accesses.specs.Access.{listed_byte}
use Rattle.accesses.proofs.access.Access.try_each.Given as goal

abbrev pub ghost-scan : goal.ghost-scan
ghost-scan a = listed_byte (spot a.test.0.now a.test.1) a.test.2
