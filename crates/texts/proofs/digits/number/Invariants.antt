-- `number`: the invariant of its loop. The characters from here on, behind those that were read, give the whole number. Assumes nothing.
use Rattle.std.proofs.Common.{◌≡◌, ◌^◌, ◌<◌, drop}
use Rattle.texts.specs.Fields.{numeral}
use Rattle.texts.proofs.Turns.{digits_from}
use Rattle.texts.proofs.digits.number.Given as goal

abbrev pub invariant-loop-c : goal.invariant-loop-c
invariant-loop-c l =
    (numeral (drop l.at l.text) ≡ digits_from l.good l.v (drop l.c-index l.c-items)) × (l.v < 16 ^ l.c-index)
