-- `put_fields`: the invariant of its loop. Assumes nothing.
use Rattle.texts.specs.Fields.{fields}
use Rattle.numbers.specs.Buffers.{laid}
use lib.ListN.{drop}
use Prim.Native.Nat.{◌+◌, ◌*◌}
use mathlib.Core.Path.{◌≡◌}
use Rattle.texts.proofs.put.put_fields.Given as goal

abbrev pub invariant-loop-i : goal.invariant-loop-i
invariant-loop-i l = (laid l.initial.text l.at (fields l.values) ≡ laid l.text (l.at + 18 * l.i) (fields (drop l.i l.values)))
