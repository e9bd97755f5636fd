-- A state in its ranges stays in them. Assumes nothing.
use Rattle.std.specs.Prelude.{ℕ, ◌≡◌, true, List}
use Rattle.pages.specs.Pages.{Lookup}
use Rattle.processor.specs.State.{in_range}
use Rattle.answers.specs.declared.answer.Answer.TheVariants.{Completed}
use Rattle.processor.specs.declared.state.State.{State}
use Rattle.perform.specs.Exec.{perform}
use Rattle.replay.specs.Run.{Input, built, replayed}
use Rattle.instructions.specs.declared.instruction.Instruction.{Instruction}

-- over every completed instruction
abbrev pub StaysInRange : Type 0
StaysInRange = (given : Input) (look : Lookup) (i : Instruction) (s : State) (bytes : List ℕ)
    → in_range s ≡ true → (perform (built given) look i s bytes).answer ≡ Completed → in_range (perform (built given) look i s bytes).state ≡ true

-- and so over whole runs, however they end
abbrev pub RunStaysInRange : Type 0
RunStaysInRange = (given : Input) → in_range given.state ≡ true → in_range (replayed given).state ≡ true
