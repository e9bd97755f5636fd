-- `put_digits`: the invariant of its loop. Assumes nothing.
use Rattle.texts.specs.Digits.{hex}
use Rattle.numbers.specs.Buffers.{laid}
use mathlib.Core.Path.{◌≡◌}
use Rattle.texts.proofs.put.put_digits.Given as goal

abbrev pub invariant-loop-place : goal.invariant-loop-place
invariant-loop-place l = (laid l.initial.text l.at (hex 16 l.v) ≡ laid l.text l.at (hex l.place l.rest))
