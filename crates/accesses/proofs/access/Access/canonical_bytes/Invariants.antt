-- `Access::canonical_bytes`: which test the scan asks. Assumes nothing.
use Rattle.accesses.specs.Access.{canonical_byte}
use Rattle.accesses.proofs.access.Access.canonical_bytes.Given as goal

abbrev pub ghost-scan : goal.ghost-scan
ghost-scan a = canonical_byte
