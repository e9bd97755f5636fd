-- `walk`: the invariant of its loop, that the whole run is the run from here on. Assumes nothing.
use Rattle.std.proofs.Common.{◌-◌, ◌≡◌}
use Rattle.accesses.specs.Access.{lookup_of}
use Rattle.instructions.specs.Instruction.{instruction_at}
use Rattle.perform.specs.Codes.{codes}
use Rattle.replay.specs.Run.{run_from}
use Rattle.replay.proofs.runs.walk.Given as goal

abbrev pub invariant-loop-k : goal.invariant-loop-k
invariant-loop-k l =
    run_from codes (lookup_of l.pages l.initial.bytes) (instruction_at l.words) 0 l.listed l.initial.state l.initial.bytes
    ≡ run_from codes (lookup_of l.pages l.initial.bytes) (instruction_at l.words) l.k (l.listed - l.k) l.state l.bytes
