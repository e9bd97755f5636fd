-- Demand 1: how a run ends, and what it leaves. Assumes nothing.
use Rattle.std.specs.Prelude.{ℕ, suc, ◌≤◌, ◌<◌, ◌≡◌, List, Ok, Err}
use Rattle.pages.specs.Pages.{Lookup}
use Rattle.answers.specs.declared.answer.Answer.{Answer}
use Rattle.answers.specs.declared.answer.Answer.TheVariants.{Completed, Refused, Faulted}
use Rattle.answers.specs.declared.answer.Refusal.{Refusal}
use Rattle.processor.specs.declared.state.State.{State}
use Rattle.instructions.specs.Instruction.{alone}
use Rattle.perform.specs.Exec.{InstructionSet, perform}
use Rattle.replay.specs.Run.{Input, listed_count, with_words, check, step, Run, run, after}
use Rattle.instructions.specs.declared.instruction.Instruction.{Instruction}

-- a refusal given before any step gives all back as it was handed in, with count 0
abbrev pub RefusedBefore : Type 0
RefusedBefore = (set : InstructionSet) (given : Input) (refusal : Refusal)
    → check given ≡ Err refusal
    → run set given ≡ record { count = 0; answer = Refused refusal; state = given.state; bytes = given.bytes }

-- an instruction that is refused or faults changes no register and no byte
abbrev pub Unchanged : Type 0
Unchanged = (set : InstructionSet) (look : Lookup) (i : Instruction) (s : State) (bytes : List ℕ)
    → ((perform set look i s bytes).answer ≡ Completed → ⊥)
    → ((perform set look i s bytes).state ≡ s) × ((perform set look i s bytes).bytes ≡ bytes)

-- how a run relates to single operations: `after k` is where k of them lead, with the last one's answer
pub record Counted (set : InstructionSet) (given : Input) (r : Run) : Type 0 where
  pub few : r.count ≤ listed_count given
  -- those that are counted completed
  pub completed : (j : ℕ) → j < r.count → (after set given (suc j)).answer ≡ Completed
  -- state and bytes are those after that many single operations
  pub state_after : r.state ≡ (after set given r.count).state
  pub bytes_after : r.bytes ≡ (after set given r.count).bytes
  -- it ends at the end of the list, or at the first that does not complete, with that one's answer
  pub at_end : r.answer ≡ Completed → r.count ≡ listed_count given
  pub at_stop : (r.answer ≡ Completed → ⊥) → (r.count < listed_count given) × ((after set given (suc r.count)).answer ≡ r.answer)

-- a run that is not refused before its first step stops at the first refusal or fault and nowhere earlier, and its count is tied to
-- the state and the bytes after that many single operations
abbrev pub CountTied : Type 0
CountTied = (set : InstructionSet) (given : Input) → check given ≡ Ok tt → Counted set given (run set given)

-- every instruction of a list completes
abbrev pub AllComplete : InstructionSet → Input → Type 0
AllComplete set given = (j : ℕ) → j < listed_count given → (after set given (suc j)).answer ≡ Completed

-- the answer is 0 exactly when no refusal is given before any step and every instruction listed has completed
abbrev pub CompletedExactly : Type 0
CompletedExactly = (set : InstructionSet) (given : Input)
    → ((run set given).answer ≡ Completed → (check given ≡ Ok tt) × AllComplete set given)
    × (check given ≡ Ok tt → AllComplete set given → (run set given).answer ≡ Completed)

-- one instruction by itself is a run of one
abbrev pub StepIsRun : Type 0
StepIsRun = (set : InstructionSet) (given : Input) (i : Instruction)
    → let one : Input = with_words given (alone i) in
    ((step set one).answer ≡ (run set one).answer) × ((step set one).state ≡ (run set one).state) × ((step set one).bytes ≡ (run set one).bytes)

-- how many steps a run took that has this answer: those that completed, and the one that did not
abbrev pub steps_taken : Answer → ℕ → ℕ
steps_taken Completed count = count
steps_taken (Refused refusal) count = suc count
steps_taken (Faulted fault) count = suc count

-- a run of n instructions takes at most n steps (and one that is refused before its first takes none: `RefusedBefore`)
abbrev pub AtMostN : Type 0
AtMostN = (set : InstructionSet) (given : Input) → check given ≡ Ok tt → steps_taken (run set given).answer (run set given).count ≤ listed_count given
