-- `try_list`: the invariant of its loop. What trying the stores finds is what trying those from here on finds. Assumes nothing.
use Rattle.std.proofs.Common.{◌≡◌, drop}
use Rattle.accesses.specs.Access.{lookup_of}
use Rattle.stores.specs.Stores.{try_all}
use Rattle.stores.proofs.list.try_list.Given as goal

abbrev pub invariant-loop-store : goal.invariant-loop-store
invariant-loop-store l =
    let look = lookup_of l.pages l.bytes in
    try_all look l.stores ≡ try_all look (drop l.store-index l.stores)
