-- The public single step, taken again and again, goes where a run's single operations go. Assumes nothing.
use Rattle.std.proofs.Common.{◌≡◌, ℕ, zero, suc, Bool, true, false, cond, List, length, Ok, Err, Result, refl, ap, ◌∙◌, ap₂, arith}
use Rattle.pages.specs.Pages.{Lookup, listing}
use Rattle.memory.proofs.Laws.{length_written, lookup_kept}
use Rattle.processor.specs.Prog.{Step}
use Rattle.processor.specs.State.{in_range}
use Rattle.answers.specs.Answer.{refusal_for}
use Rattle.answers.specs.declared.answer.Refusal.{Refusal}
use Rattle.answers.specs.declared.answer.Refusal.TheVariants.{State as BadState, Words}
use Rattle.pages.specs.declared.pages.ListError.{ListError}
use Rattle.processor.specs.declared.state.State.{State}
use Rattle.instructions.specs.Instruction.{instruction_at}
use Rattle.perform.specs.Exec.{InstructionSet, exec, perform}
use Rattle.replay.specs.Run.{Input, look_of, listed, bad_words, after_pages, check_by, check, step, after_from, after, built, stepped}
use Rattle.instructions.specs.declared.instruction.Instruction.{Instruction}
use Rattle.claims.specs.StepByStep.{next_input, stepping, StepByStepInRange, StepByStep}
use Rattle.claims.proofs.Counts.{unchanged, completes}
use Rattle.claims.proofs.InstructionWalk.{performed_bytes}
use Rattle.claims.proofs.RangesProof.{stays_in_range}
use Rattle.claims.proofs.Walks.{anything, any_walks}

-- ---- what passed

failed_no_pass : (refusal : Refusal) → ◌≡◌ {A = Result (Unit {0}) Refusal} (Err refusal) (Ok tt) → ⊥
failed_no_pass refusal e = cc

-- the page list was valid, and the tests after it passed
pages_passed : (l : Result (Unit {0}) ListError) (rest : Result (Unit {0}) Refusal) → after_pages l rest ≡ Ok tt → (l ≡ Ok tt) × (rest ≡ Ok tt)
pages_passed (Ok x) rest e = (refl, e)
pages_passed (Err found) rest e = absurd (failed_no_pass (refusal_for found) e)

-- so a list of one instruction passes too, from any state in range
passes_alone : (pages : List ℕ) (lent : ℕ) (good : Bool) (words : ℕ) → check_by pages lent good words ≡ Ok tt → check_by pages lent true 4 ≡ Ok tt
unfolding check_by bad_words
passes_alone pages lent good words e = rw (pages_passed (listing pages lent) _ e).0

-- and the state was in range
passed_in_range : (given : Input) → check given ≡ Ok tt → in_range given.state ≡ true
unfolding check check_by
passed_in_range given passed = go (in_range given.state) (pages_passed (listing given.pages (length given.bytes)) _ passed).1
  where
    go : (good : Bool) → cond {A = Result (Unit {0}) Refusal} good (cond (bad_words (length given.words)) (Err Words) (Ok tt)) (Err BadState) ≡ Ok tt → good ≡ true
    go true e = refl
    go false e = absurd (failed_no_pass BadState e)

-- ---- one step

passed_step : (set : InstructionSet) (one : Input) → check one ≡ Ok tt → step set one ≡ perform set (look_of one) (listed one 0) one.state one.bytes
unfolding step
passed_step set one e = rw e

-- over what was left of a valid input, from a state in range, it is a single operation
module _ (given : Input) (before : Step) (i : Instruction) (passed : check given ≡ Ok tt) (kept : length before.bytes ≡ length given.bytes) (good : in_range before.state ≡ true) where
  next_passes : check (next_input given before i) ≡ Ok tt
  unfolding check
  next_passes =
      ap₂ (λ (lent : ℕ) (t : Bool). check_by given.pages lent t 4) kept good
      ∙ passes_alone given.pages (length given.bytes) (in_range given.state) (length given.words) passed

  is_performed : (set : InstructionSet) → step set (next_input given before i) ≡ perform set (look_of given) i before.state before.bytes
  unfolding instruction_at
  is_performed set =
      passed_step set (next_input given before i) next_passes
      ∙ ap (λ (look : Lookup). perform set look i before.state before.bytes) (lookup_kept given.pages given.bytes before.bytes kept)

-- ---- one after the other

-- no byte is added or lost
length_performed : (set : InstructionSet) (look : Lookup) (i : Instruction) (s : State) (bytes : List ℕ) → length (perform set look i s bytes).bytes ≡ length bytes
length_performed set look i s bytes =
    performed_bytes set look i s bytes anything (any_walks look (exec set i s) bytes) (λ left. length left ≡ length bytes) (λ a v left stores ready same. length_written look a v left ∙ same) refl

length_after : (set : InstructionSet) (given : Input) (k : ℕ) → length (after set given k).bytes ≡ length given.bytes
unfolding after_from
length_after set given zero = refl
length_after set given (suc k) = length_performed set (look_of given) (listed given k) _ _ ∙ length_after set given k

pub step_by_step_in_range : StepByStepInRange
unfolding stepping after_from
step_by_step_in_range set given passed zero good = refl
step_by_step_in_range set given passed (suc k) good =
    ap (λ (before : Step). step set (next_input given before (listed given k))) (step_by_step_in_range set given passed k (λ j below. good j (omega arith)))
    ∙ is_performed given (after set given k) (listed given k) passed (length_after set given k) (good k (omega arith)) set

-- ---- the codes that are built

-- a state in range stays in range, whatever the answer
performed_in_range : (given : Input) (look : Lookup) (i : Instruction) (s : State) (bytes : List ℕ) → in_range s ≡ true → in_range (perform (built given) look i s bytes).state ≡ true
performed_in_range given look i s bytes good =
    elim (completes (perform (built given) look i s bytes).answer) [
      | yes done ↦ stays_in_range given look i s bytes good done
      | no stops ↦ rw (unchanged (built given) look i s bytes stops).0 good
    ]

after_in_range : (given : Input) → in_range given.state ≡ true → (k : ℕ) → in_range (after (built given) given k).state ≡ true
unfolding after_from
after_in_range given good zero = good
after_in_range given good (suc k) = performed_in_range given (look_of given) (listed given k) _ _ (after_in_range given good k)

-- what a step leaves is run by the set of the first input
built_of_next : (given : Input) (before : Step) (i : Instruction) → built (next_input given before i) ≡ built given
built_of_next given before i = refl

-- so each step may be taken by that set
by_first_set : (given : Input) (k : ℕ) → stepping stepped given k ≡ stepping (step (built given)) given k
unfolding stepping
by_first_set given zero = refl
by_first_set given (suc k) =
    ap (λ (set : InstructionSet). step set (next_input given (stepping stepped given k) (listed given k))) (built_of_next given (stepping stepped given k) (listed given k))
    ∙ ap (λ (before : Step). step (built given) (next_input given before (listed given k))) (by_first_set given k)

pub step_by_step : StepByStep
step_by_step given passed k =
    by_first_set given k ∙ step_by_step_in_range (built given) given passed k (λ j below. after_in_range given (passed_in_range given passed) j)
