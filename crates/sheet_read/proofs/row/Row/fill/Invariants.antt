-- `Row::fill`: the invariant of its loop: the numbers from the i-th on are to be laid. Assumes nothing.
use Rattle.std.proofs.Common.{◌≡◌, ◌+◌, drop}
use Rattle.numbers.specs.Buffers.{laid}
use Rattle.sheet_read.specs.Scan.{values_on}
use Rattle.sheet_read.proofs.row.Row.fill.Given as goal

abbrev pub invariant-loop-i : goal.invariant-loop-i
invariant-loop-i l = laid l.initial.out l.at (values_on l.self) ≡ laid l.out (l.at + l.i) (drop l.i (values_on l.self))
