-- What each instruction keeps that completes, a whole run keeps, however it ends. Assumes nothing.
use Rattle.std.proofs.Common.{◌≡◌, ℕ, zero, suc, ◌<◌, Ok, Err, Result, sym, refl, subst, arith}
use Rattle.answers.specs.declared.answer.Answer.TheVariants.{Completed}
use Rattle.answers.specs.declared.answer.Refusal.{Refusal}
use Rattle.processor.specs.declared.state.State.{State}
use Rattle.perform.specs.Exec.{InstructionSet}
use Rattle.replay.specs.Run.{Input, check, Run, run, after_from, after}
use Rattle.claims.proofs.EndsProof.{refused_before, count_tied}

-- what is counted completed
pub done_below : (set : InstructionSet) (given : Input) (j : ℕ) → j < (run set given).count → (after set given (suc j)).answer ≡ Completed
done_below set given = go (check given) refl
  where
    go : (t : Result (Unit {0}) Refusal) → check given ≡ t → (j : ℕ) → j < (run set given).count → (after set given (suc j)).answer ≡ Completed
    go (Ok x) e = (count_tied set given e).completed
    go (Err refusal) e = rw (refused_before set given refusal e) (λ j none. absurd (omega arith))

module _ (set : InstructionSet) (given : Input) (P : ℕ → State → Type 0) where
  -- the first n instructions, where each completes, keep P, which is told how many have completed
  abbrev Keep : ℕ → Type 0
  Keep n = (j : ℕ) → j < n → P j (after set given j).state → (after set given (suc j)).answer ≡ Completed → P (suc j) (after set given (suc j)).state

  pub kept_after : (n : ℕ) → P 0 given.state → Keep n → ((j : ℕ) → j < n → (after set given (suc j)).answer ≡ Completed) → P n (after set given n).state
  unfolding after_from
  kept_after zero start keep completed = start
  kept_after (suc n) start keep completed =
      keep n (omega arith) (kept_after n start (λ j h. keep j (omega arith)) (λ j h. completed j (omega arith))) (completed n (omega arith))

  -- a run keeps P that the instructions counted in it keep
  abbrev KeptBy : Run → Type 0
  KeptBy r = Keep r.count → P r.count r.state

  pub run_keeps : P 0 given.state → KeptBy (run set given)
  run_keeps start = go (check given) refl
    where
      go : (t : Result (Unit {0}) Refusal) → check given ≡ t → KeptBy (run set given)
      go (Ok x) e = λ keep.
          let c = count_tied set given e in
          subst (P (run set given).count) (sym c.state_after) (kept_after (run set given).count start keep c.completed)
      go (Err refusal) e = rw (refused_before set given refusal e) (λ keep. start)
