-- `make_all`: the invariant of its loop. What the stores leave is what they leave from the k-th on. Assumes nothing.
use Rattle.std.proofs.Common.{◌≡◌, drop}
use Rattle.accesses.specs.Access.{lookup_of}
use Rattle.stores.specs.Stores.{written_all}
use Rattle.stores.proofs.make_all.Given as goal

abbrev pub invariant-loop-k : goal.invariant-loop-k
invariant-loop-k g l =
    let look = lookup_of l.pages l.initial.bytes in
    written_all look l.stores l.initial.bytes ≡ written_all look (drop l.k l.stores) l.bytes
