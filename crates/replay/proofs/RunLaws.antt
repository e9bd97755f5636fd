-- A turn of a run, and its end. Assumes nothing.
use Rattle.std.proofs.Common.{ℕ, suc, ◌+◌, ◌-◌, ◌<◌, List, ◌≡◌, refl, ◌∙◌, arith}
use Rattle.pages.specs.Pages.{Lookup}
use Rattle.answers.specs.declared.answer.Answer.{Answer}
use Rattle.answers.specs.declared.answer.Answer.TheVariants.{Completed, Refused, Faulted}
use Rattle.processor.specs.Prog.{Step}
use Rattle.processor.specs.declared.state.State.{State}
use Rattle.instructions.specs.declared.instruction.Instruction.{Instruction}
use Rattle.perform.specs.Exec.{InstructionSet, perform}
use Rattle.replay.specs.Run.{Run, onward, ends_at, run_from}

-- only from a completed instruction does a run go on
stops : (answer : Answer) (more end : Run) → (answer ≡ Completed → ⊥) → onward answer more end ≡ end
stops Completed more end other = absurd (other refl)
stops (Refused refusal) more end other = refl
stops (Faulted fault) more end other = refl

module _ (set : InstructionSet) (look : Lookup) (listed : ℕ → Instruction) (k n : ℕ) (s : State) (bytes : List ℕ) where
  -- one more instruction is left
  turn : k < n → run_from set look listed k (n - k) s bytes
      ≡ onward (perform set look (listed k) s bytes).answer
      (run_from set look listed (suc k) (n - suc k) (perform set look (listed k) s bytes).state (perform set look (listed k) s bytes).bytes)
      (ends_at k (perform set look (listed k) s bytes))
  unfolding run_from
  turn h = let e : n - k ≡ suc (n - suc k) = omega arith in rw e

  -- it completes, and the run goes on
  pub goes_on : k < n → (now : Step) → perform set look (listed k) s bytes ≡ now → now.answer ≡ Completed
      → run_from set look listed k (n - k) s bytes ≡ run_from set look listed (k + 1) (n - (k + 1)) now.state now.bytes
  goes_on h now e a = let one : k + 1 ≡ suc k = omega arith in turn h ∙ rw (e, a, one)

  -- it does not, and the run ends
  pub ends : k < n → (now : Step) → perform set look (listed k) s bytes ≡ now → (now.answer ≡ Completed → ⊥) → run_from set look listed k (n - k) s bytes ≡ ends_at k now
  ends h now e other = turn h ∙ rw e (stops now.answer _ _ other)

  -- none is left
  pub at_end : k ≡ n → run_from set look listed k (n - k) s bytes ≡ record { count = n; answer = Completed; state = s; bytes = bytes }
  unfolding run_from
  at_end all = let none : n - k ≡ 0 = omega arith in rw (none, all)
