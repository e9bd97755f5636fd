-- A run's count against single operations: what demands 1 and 3 both stand on. Assumes nothing.
--
--     refused_stops, faulted_stops, completes    which answers are not that an instruction completed
--     refused_no_fault                           a refusal is no fault
--     one_more                                   what holds below k and at k
--     unchanged                                  what does not complete changes nothing
--     counted                                    a run of the steps is tied to `after`, as `Counted` says
-- And back, where a run ends, by which instructions complete:
--     goes_as_far                                the first k do: it counts at least k
--     ends_at_end                                all do: it ends at the end of the list
--     ends_at_stop                               the first k do and the next does not: it ends there, with that one's answer
use Rattle.std.proofs.Common.{◌≡◌, ℕ, zero, suc, ◌+◌, ◌<◌, ◌≤◌, Bool, true, false, cond, sym, refl, ◌∙◌, arith}
use native.Mathlib.Decide.{ℕ_discrete}
use Rattle.processor.specs.Prog.{Step, Ending, ended, broken, settle, interp, operate}
use Rattle.answers.specs.declared.answer.Answer.{Answer}
use Rattle.answers.specs.declared.answer.Answer.TheVariants.{Completed, Refused, Faulted}
use Rattle.answers.specs.declared.answer.Fault.{Fault}
use Rattle.answers.specs.declared.answer.Refusal.{Refusal}
use Rattle.answers.specs.declared.answer.Refusal.TheVariants.{Instruction as BadForm}
use Rattle.processor.specs.declared.state.State.{State}
use Rattle.instructions.specs.Permission.{hidden}
use Rattle.perform.specs.Exec.{InstructionSet, exec, refused, perform}
use Rattle.replay.specs.Run.{Input, look_of, listed, listed_count, Run, ends_at, onward, run_from, after_from, after}
use Rattle.claims.specs.Ends.{Unchanged, Counted}

-- ---- answers

pub refused_stops : (refusal : Refusal) → Refused refusal ≡ Completed → ⊥
refused_stops refusal e = cc

pub faulted_stops : (fault : Fault) → Faulted fault ≡ Completed → ⊥
faulted_stops fault e = cc

pub refused_no_fault : (refusal : Refusal) (fault : Fault) → Refused refusal ≡ Faulted fault → ⊥
refused_no_fault refusal fault e = cc

pub completes : (a : Answer) → Dec (a ≡ Completed)
completes Completed = yes refl
completes (Refused refusal) = no (refused_stops refusal)
completes (Faulted fault) = no (faulted_stops fault)

-- ---- counts

-- what holds below k and at k holds below its successor
pub one_more : (P : ℕ → Type 0) (k : ℕ) → ((j : ℕ) → j < k → P j) → P k → (j : ℕ) → j < suc k → P j
one_more P k below here j h = elim (ℕ_discrete j k) [ yes at ↦ rw at here | no off ↦ below j (omega arith) ]

-- ---- one instruction

pub unchanged : Unchanged
unfolding perform operate
unchanged set look i s bytes stops = go (set.fits i (hidden s)) (interp look (exec set i s) bytes) stops
  where
    by : Bool → Ending State → Step
    by t r = cond t (settle s bytes r) (refused BadForm s bytes)

    go : (t : Bool) (r : Ending State) → ((by t r).answer ≡ Completed → ⊥) → ((by t r).state ≡ s) × ((by t r).bytes ≡ bytes)
    go true (ended last stored) no_end = absurd (no_end refl)
    go true (broken fault) no_end = (refl, refl)
    go false r no_end = (refl, refl)

-- ---- a run of the steps

module _ (set : InstructionSet) (given : Input) where
  -- the j-th instruction completes
  abbrev pub Done : ℕ → Type 0
  Done j = (after set given (suc j)).answer ≡ Completed

  -- what is left of the run from the k-th instruction on
  abbrev rest : ℕ → ℕ → Run
  rest k left = run_from set (look_of given) (listed given) k left (after set given k).state (after set given k).bytes

  -- the k-th instruction does not complete, and those before it did
  stopped : (k left : ℕ) → k + suc left ≡ listed_count given → ((j : ℕ) → j < k → Done j) → (Done k → ⊥) → Counted set given (ends_at k (after set given (suc k)))
  unfolding after_from
  stopped k left all before stops =
      let now : Step = after set given k in
      let same = unchanged set (look_of given) (listed given k) now.state now.bytes stops in
      record {
        few = omega arith;
        completed = before;
        state_after = same.0;
        bytes_after = same.1;
        at_end = λ e. absurd (stops e);
        at_stop = λ no_end. (omega arith, refl);
      }

  -- from the k-th instruction on, if those before it completed
  counted_from : (k left : ℕ) → k + left ≡ listed_count given → ((j : ℕ) → j < k → Done j) → Counted set given (rest k left)
  unfolding run_from after_from
  counted_from k zero all before =
      record { few = omega arith; completed = before; state_after = refl; bytes_after = refl; at_end = λ e. omega arith; at_stop = λ no_end. absurd (no_end refl) }
  counted_from k (suc left) all before = go (after set given (suc k)).answer refl (λ now. counted_from (suc k) left (omega arith) (one_more Done k before now))
    where
      go : (a : Answer) → (after set given (suc k)).answer ≡ a → (Done k → Counted set given (rest (suc k) left)) → Counted set given (onward a (rest (suc k) left) (ends_at k (after set given (suc k))))
      go Completed e onwards = onwards e
      go (Refused refusal) e onwards = stopped k left all before (λ d. refused_stops refusal (sym e ∙ d))
      go (Faulted fault) e onwards = stopped k left all before (λ d. faulted_stops fault (sym e ∙ d))

  -- from the first on
  pub counted : Counted set given (run_from set (look_of given) (listed given) 0 (listed_count given) given.state given.bytes)
  unfolding after_from
  counted = counted_from 0 (listed_count given) (omega arith) (λ j h. absurd (omega arith))

  -- ---- where a run ends, by which instructions complete

  module _ (r : Run) (c : Counted set given r) (k : ℕ) (before : (j : ℕ) → j < k → Done j) where
    -- the first k complete, so a run counts at least k
    pub goes_as_far : k ≤ listed_count given → k ≤ r.count
    goes_as_far few = let enough : r.count < k → ⊥ = short in omega arith
      where
        short : r.count < k → ⊥
        short h =
            elim (completes r.answer) [
              | yes e ↦ let all : r.count ≡ listed_count given = c.at_end e in omega arith
              | no stops ↦ stops (sym (c.at_stop stops).1 ∙ before r.count h)
            ]

    -- all complete: the run ends at the end of the list
    pub ends_at_end : k ≡ listed_count given → (r.count ≡ k) × (r.answer ≡ Completed)
    ends_at_end all =
        let far : k ≤ r.count = goes_as_far (omega arith) in
        let few : r.count ≤ listed_count given = c.few in
        (omega arith, elim (completes r.answer) [ yes e ↦ e | no stops ↦ let early : r.count < listed_count given = (c.at_stop stops).0 in absurd (omega arith) ])

    -- the next does not complete: the run ends there, with its answer
    pub ends_at_stop : k < listed_count given → (Done k → ⊥) → (r.count ≡ k) × (r.answer ≡ (after set given (suc k)).answer)
    ends_at_stop h stops =
        let far : k ≤ r.count = goes_as_far (omega arith) in
        let no_farther : k < r.count → ⊥ = λ beyond. stops (c.completed k beyond) in
        let there : r.count ≡ k = omega arith in (
          there,
          elim (completes r.answer) [
            | yes e ↦ let all : r.count ≡ listed_count given = c.at_end e in absurd (omega arith)
            | no ends ↦ sym (rw there at (c.at_stop ends).1)
          ],
        )
