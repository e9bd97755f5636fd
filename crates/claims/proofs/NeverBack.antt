-- A run never counts back. Assumes nothing.
use Rattle.std.proofs.Common.{ℕ, zero, suc, ◌≤◌, List, arith}
use Rattle.pages.specs.Pages.{Lookup}
use Rattle.processor.specs.Prog.{Step}
use Rattle.answers.specs.declared.answer.Answer.{Answer}
use Rattle.answers.specs.declared.answer.Answer.TheVariants.{Completed, Refused, Faulted}
use Rattle.processor.specs.declared.state.State.{State}
use Rattle.perform.specs.Exec.{InstructionSet, perform}
use Rattle.replay.specs.Run.{Run, ends_at, onward, run_from}
use Rattle.instructions.specs.declared.instruction.Instruction.{Instruction}

-- a run that has come to the k-th instruction ends there or later
pub onward_count : (k : ℕ) (answer : Answer) (more : Run) (now : Step) → k ≤ more.count → k ≤ (onward answer more (ends_at k now)).count
onward_count k Completed more now h = h
onward_count k (Refused refusal) more now h = omega arith
onward_count k (Faulted fault) more now h = omega arith

pub count_from : (set : InstructionSet) (look : Lookup) (listed : ℕ → Instruction) (k left : ℕ) (s : State) (bytes : List ℕ) → k ≤ (run_from set look listed k left s bytes).count
unfolding run_from
count_from set look listed k zero s bytes = omega arith
count_from set look listed k (suc left) s bytes =
    let now : Step = perform set look (listed k) s bytes in
    let more : suc k ≤ (run_from set look listed (suc k) left now.state now.bytes).count = count_from set look listed (suc k) left now.state now.bytes in
    onward_count k now.answer (run_from set look listed (suc k) left now.state now.bytes) now (omega arith)
