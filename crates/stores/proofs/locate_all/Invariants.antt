-- `locate_all`: the invariant of its loop. Assumes nothing.
use Rattle.accesses.specs.Access.{lookup_of}
use Rattle.stores.proofs.Turns.{Noted}
use Rattle.stores.proofs.locate_all.Given as goal

abbrev pub invariant-loop-k : goal.invariant-loop-k
invariant-loop-k g l = Noted (lookup_of l.pages l.bytes) l.stores l.places l.k
