-- Demand 1: how a run ends, and what it leaves. Assumes nothing.
use Rattle.std.proofs.Common.{◌≡◌, ℕ, ◌<◌, ◌≤◌, Ok, Err, Result, refl}
use Rattle.processor.specs.Prog.{Step}
use Rattle.answers.specs.declared.answer.Answer.{Answer}
use Rattle.answers.specs.declared.answer.Answer.TheVariants.{Completed, Refused, Faulted}
use Rattle.answers.specs.declared.answer.Refusal.{Refusal}
use Rattle.instructions.specs.Instruction.{instruction_at, alone}
use Rattle.perform.specs.Exec.{InstructionSet, perform}
use Rattle.replay.specs.Run.{Input, look_of, listed, listed_count, with_words, check, step_if, step, Run, onward, ends_at, run_if, run_from, run}
use Rattle.claims.specs.Ends.{RefusedBefore, CountTied, AllComplete, CompletedExactly, StepIsRun, steps_taken, AtMostN}
use Rattle.claims.proofs.Counts.{refused_stops, faulted_stops, counted, ends_at_end}
pub use Rattle.claims.proofs.Counts.{unchanged}

pub refused_before : RefusedBefore
unfolding run
refused_before set given refusal e = rw e

pub count_tied : CountTied
unfolding run
count_tied set given e = rw e (counted set given)

module _ (set : InstructionSet) (given : Input) where
  -- a run that completes was not refused before its first step
  passed : (run set given).answer ≡ Completed → check given ≡ Ok tt
  unfolding run
  passed e = go (check given) refl e
    where
      steps_run : Run
      steps_run = run_from set (look_of given) (listed given) 0 (listed_count given) given.state given.bytes

      go : (t : Result (Unit {0}) Refusal) → check given ≡ t → (run_if t steps_run given.state given.bytes).answer ≡ Completed → check given ≡ Ok tt
      go (Ok x) h q = h
      go (Err refusal) h q = absurd (refused_stops refusal q)

  -- its count is the whole list's, and what is counted completed
  all_complete : (run set given).answer ≡ Completed → AllComplete set given
  all_complete e j h =
      let c = count_tied set given (passed e) in
      c.completed j (rw (c.at_end e) h)

  completes_all : check given ≡ Ok tt → AllComplete set given → (run set given).answer ≡ Completed
  completes_all e all = (ends_at_end set given (run set given) (count_tied set given e) (listed_count given) all refl).1

pub completed_exactly : CompletedExactly
completed_exactly set given = (λ e. (passed set given e, all_complete set given e), completes_all set given)

-- the step that did not complete is one of the list
steps : (a : Answer) (count n : ℕ) → count ≤ n → ((a ≡ Completed → ⊥) → count < n) → steps_taken a count ≤ n
steps Completed count n few early = few
steps (Refused refusal) count n few early = early (refused_stops refusal)
steps (Faulted fault) count n few early = early (faulted_stops fault)

pub at_most_n : AtMostN
at_most_n set given e =
    let c = count_tied set given e in
    steps (run set given).answer (run set given).count (listed_count given) c.few (λ stops. (c.at_stop stops).0)

-- ---- one instruction by itself

-- a run of one step ends with that step, whatever its answer
one_step : (k : ℕ) (now : Step) (answer : Answer) → now.answer ≡ answer
    → let r : Run = onward answer (record { count = k; answer = Completed; state = now.state; bytes = now.bytes }) (ends_at 0 now) in
    (now.answer ≡ r.answer) × (now.state ≡ r.state) × (now.bytes ≡ r.bytes)
one_step k now Completed e = (e, refl, refl)
one_step k now (Refused refusal) e = (refl, refl, refl)
one_step k now (Faulted fault) e = (refl, refl, refl)

pub step_is_run : StepIsRun
unfolding step run run_from instruction_at
step_is_run set given i = go (check (with_words given (alone i)))
  where
    now : Step
    now = perform set (look_of given) i given.state given.bytes

    go : (t : Result (Unit {0}) Refusal)
        → let r : Run = run_if t (onward now.answer (record { count = 1; answer = Completed; state = now.state; bytes = now.bytes }) (ends_at 0 now)) given.state given.bytes in
        let alone_step : Step = step_if t now given.state given.bytes in
        (alone_step.answer ≡ r.answer) × (alone_step.state ≡ r.state) × (alone_step.bytes ≡ r.bytes)
    go (Ok x) = one_step 1 now now.answer refl
    go (Err refusal) = (refl, refl, refl)
