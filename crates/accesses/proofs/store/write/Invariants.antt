-- `write`: the invariant of its loop. The whole write is the write from here on, and no byte is added or lost. Assumes nothing.
use Rattle.std.proofs.Common.{◌≡◌, ◌-◌, length}
use Rattle.addresses.specs.Address.{wrapped, plus}
use Rattle.pages.specs.Pages.{spot}
use Rattle.accesses.specs.Access.{write}
use Rattle.accesses.proofs.store.write.Given as goal

abbrev pub invariant-loop-k : goal.invariant-loop-k
invariant-loop-k l =
    (write (spot l.pages (length l.initial.bytes)) l.width (wrapped l.width l.first) l.n l.value l.initial.bytes
    ≡ write (spot l.pages (length l.initial.bytes)) l.width (plus l.width l.first l.k) (l.n - l.k) l.rest l.bytes)
    × (length l.bytes ≡ length l.initial.bytes)
