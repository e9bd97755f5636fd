-- `scan`: the invariant of its loop. The whole scan is the scan from here on. Assumes nothing.
use Rattle.std.proofs.Common.{◌≡◌, ◌-◌}
use Rattle.addresses.specs.Address.{wrapped, plus}
use Rattle.accesses.specs.Access.{scan}
use Rattle.accesses.proofs.reach.scan.Given as goal

abbrev pub invariant-loop-k : goal.invariant-loop-k
invariant-loop-k g l = scan g.want l.width (wrapped l.width l.first) l.n ≡ scan g.want l.width (plus l.width l.first l.k) (l.n - l.k)
