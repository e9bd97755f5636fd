-- The public single step, taken again and again, goes where a run's single operations go (docs/RULES.md, "Refusals and answers").
-- Assumes nothing.
use Rattle.std.specs.Prelude.{ℕ, zero, suc, ◌<◌, ◌≡◌, true, Ok}
use Rattle.processor.specs.Prog.{Step}
use Rattle.processor.specs.State.{in_range}
use Rattle.answers.specs.declared.answer.Answer.TheVariants.{Completed}
use Rattle.instructions.specs.Instruction.{alone}
use Rattle.perform.specs.Exec.{InstructionSet}
use Rattle.replay.specs.Run.{Input, listed, with_state, with_pages, with_words, check, step, after, built, stepped}
use Rattle.instructions.specs.declared.instruction.Instruction.{Instruction}

-- what one step is given: what the step before left, and the one instruction
abbrev pub next_input : Input → Step → Instruction → Input
next_input given before i = with_words (with_pages (with_state given before.state) given.pages before.bytes) (alone i)

-- k steps of the listed instructions, each taken by `single`; past the end of the list the words count as 0, which is refusal 6
unfoldable pub stepping : (Input → Step) → Input → ℕ → Step
stepping single given zero = record { answer = Completed; state = given.state; bytes = given.bytes }
stepping single given (suc k) = single (next_input given (stepping single given k) (listed given k))

-- State, bytes and last answer are those after k single operations, whatever each answers. A step is refused where its state is out of
-- range, so of any instruction set this is claimed while the states stay in range.
abbrev pub StepByStepInRange : Type 0
StepByStepInRange = (set : InstructionSet) (given : Input) → check given ≡ Ok tt
    → (k : ℕ) → ((j : ℕ) → j < k → in_range (after set given j).state ≡ true) → stepping (step set) given k ≡ after set given k

-- Of the codes that are built they do, so nothing is asked of them. `stepped` is what the contract of the public step cites.
abbrev pub StepByStep : Type 0
StepByStep = (given : Input) → check given ≡ Ok tt → (k : ℕ) → stepping stepped given k ≡ after (built given) given k
