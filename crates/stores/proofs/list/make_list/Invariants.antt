-- `make_list`: the invariant of its loop. What the stores leave is what they leave from here on. Assumes nothing.
use Rattle.std.proofs.Common.{◌≡◌, drop}
use Rattle.accesses.specs.Access.{lookup_of}
use Rattle.stores.specs.Stores.{written_all}
use Rattle.stores.proofs.list.make_list.Given as goal

abbrev pub invariant-loop-store : goal.invariant-loop-store
invariant-loop-store l =
    let look = lookup_of l.pages l.initial.bytes in
    written_all look l.stores l.initial.bytes ≡ written_all look (drop l.store-index l.stores) l.bytes
