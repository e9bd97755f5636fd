-- Demand 3 for the permission bits: by induction over the list, each step of the second run being that of the first with the bits
-- switched on. Assumes nothing.
use Rattle.std.proofs.Common.{◌≡◌, ℕ, zero, suc, ◌≤◌, Bool, true, false, List, Ok, Err, Result, sym, refl, ap, ◌∙◌, arith}
use Rattle.pages.specs.Pages.{Lookup}
use Rattle.processor.specs.Prog.{Step}
use Rattle.answers.specs.declared.answer.Answer.{Answer}
use Rattle.answers.specs.declared.answer.Answer.TheVariants.{Completed, Refused, Faulted}
use Rattle.answers.specs.declared.answer.Refusal.{Refusal}
use Rattle.processor.specs.declared.state.State.{State}
use Rattle.perform.specs.Exec.{InstructionSet, perform}
use Rattle.replay.specs.Run.{look_of, listed, listed_count, check, Run, ends_at, onward, run_from, run_if, run, after_from}
use Rattle.instructions.specs.declared.instruction.Instruction.{Instruction}
use Rattle.claims.specs.MoreRights.{granted, not_permitted, AlikeButBits, AlikeBefore, MoreRights}
use Rattle.claims.proofs.Counts.{unchanged, refused_stops, faulted_stops}
use Rattle.claims.proofs.NeverBack.{onward_count, count_from}
use Rattle.claims.proofs.GrantedSteps.{on_step, same_step}
use Rattle.claims.proofs.PermissionBits.{range_granted}

-- the second run starts from the state s₀ and the bytes bytes₀
module _ (set : InstructionSet) (look : Lookup) (at : ℕ → Instruction) (user supervisor : Bool) (s₀ : State) (bytes₀ : List ℕ) where
  -- the claim of two runs, or of what is left of them
  abbrev Beside : Run → Run → Type 0
  Beside r₁ r₂ =
      (not_permitted r₁ (at r₁.count) ≡ false → AlikeButBits user supervisor r₁ r₂)
      × (not_permitted r₁ (at r₁.count) ≡ true → AlikeBefore user supervisor r₁ r₂ (after_from set look at r₁.count s₀ bytes₀))

  -- after k single operations the second has what the first has, but for the bits
  record Reached (k : ℕ) (s : State) (bytes : List ℕ) : Type 0 where
    state_is : (after_from set look at k s₀ bytes₀).state ≡ granted user supervisor s
    bytes_are : (after_from set look at k s₀ bytes₀).bytes ≡ bytes

  -- both end before the k-th instruction, with the same answer
  ends_before : (k : ℕ) (answer : Answer) (s : State) (bytes : List ℕ) → Reached k s bytes
      → Beside (record { count = k; answer = answer; state = s; bytes = bytes }) (record { count = k; answer = answer; state = granted user supervisor s; bytes = bytes })
  ends_before k answer s bytes reached =
      (λ q. record { count = refl; answer = refl; bytes = refl; registers = refl }, λ q. record { count = omega arith; bytes = reached.bytes_are; registers = reached.state_is })

  -- the k-th instruction in both
  module _ (k : ℕ) (s : State) (bytes : List ℕ) (reached : Reached k s bytes) where
    abbrev now₁ : Step
    now₁ = perform set look (at k) s bytes

    abbrev now₂ : Step
    now₂ = perform set look (at k) (granted user supervisor s) bytes

    next_reached : now₂ ≡ on_step user supervisor now₁ → Reached (suc k) now₁.state now₁.bytes
    unfolding after_from
    next_reached e = record {
      state_is = rw (reached.state_is, reached.bytes_are) (ap (λ (now : Step). now.state) e);
      bytes_are = rw (reached.state_is, reached.bytes_are) (ap (λ (now : Step). now.bytes) e);
    }

    -- the first run ends with it; `more` is the rest of the second, should it go on
    module _ (more : Run) (later : k ≤ more.count) where
      abbrev rest₂ : Run
      rest₂ = onward now₂.answer more (ends_at k now₂)

      stops_alike : rest₂ ≡ ends_at k (on_step user supervisor now₁) → AlikeButBits user supervisor (ends_at k now₁) rest₂
      stops_alike e = record {
        count = ap (λ (r : Run). r.count) e;
        answer = ap (λ (r : Run). r.answer) e;
        bytes = ap (λ (r : Run). r.bytes) e;
        registers = ap (λ (r : Run). r.state) e;
      }

      stops_before : (now₁.answer ≡ Completed → ⊥) → AlikeBefore user supervisor (ends_at k now₁) rest₂ (after_from set look at k s₀ bytes₀)
      stops_before stopped =
          let kept = unchanged set look (at k) s bytes stopped in
          record {
            count = onward_count k now₂.answer more now₂ later;
            bytes = reached.bytes_are ∙ sym kept.1;
            registers = reached.state_is ∙ ap (granted user supervisor) (sym kept.0);
          }

      stops : (answer : Answer) → now₁.answer ≡ answer → (answer ≡ Completed → ⊥) → ((go end : Run) → onward answer go end ≡ end) → Beside (ends_at k now₁) rest₂
      stops answer a stopped ends = (λ q. stops_alike (same (same_step set look (at k) s bytes user supervisor k q)), λ q. stops_before (λ c. stopped (sym a ∙ c)))
        where
          same : now₂ ≡ on_step user supervisor now₁ → rest₂ ≡ ends_at k (on_step user supervisor now₁)
          same e = ap (λ (now : Step). onward now.answer more (ends_at k now)) e ∙ rw a (ends more _)

    -- by its answer in the first
    turn : (answer : Answer) (more₁ more₂ : Run) → now₁.answer ≡ answer → k ≤ more₂.count → (now₂ ≡ on_step user supervisor now₁ → Beside more₁ more₂)
        → Beside (onward answer more₁ (ends_at k now₁)) (onward now₂.answer more₂ (ends_at k now₂))
    unfolding not_permitted
    turn Completed more₁ more₂ a later rest =
        let e = same_step set look (at k) s bytes user supervisor k (rw a) in
        rw (ap (λ (now : Step). now.answer) e ∙ a) (rest e)
    turn (Refused refusal) more₁ more₂ a later rest = stops more₂ later (Refused refusal) a (refused_stops refusal) (λ go end. refl)
    turn (Faulted fault) more₁ more₂ a later rest = stops more₂ later (Faulted fault) a (faulted_stops fault) (λ go end. refl)

  -- from the k-th instruction on
  beside_from : (k left : ℕ) (s : State) (bytes : List ℕ) → Reached k s bytes → Beside (run_from set look at k left s bytes) (run_from set look at k left (granted user supervisor s) bytes)
  unfolding run_from
  beside_from k zero s bytes reached = ends_before k Completed s bytes reached
  beside_from k (suc left) s bytes reached =
      let first : Step = perform set look (at k) s bytes in
      let second : Step = perform set look (at k) (granted user supervisor s) bytes in
      let more : suc k ≤ (run_from set look at (suc k) left second.state second.bytes).count = count_from set look at (suc k) left second.state second.bytes in
      turn k s bytes reached first.answer _ _ refl (omega arith) (λ e. rw e (beside_from (suc k) left first.state first.bytes (next_reached k s bytes reached e)))

-- ---- whole runs

pub more_rights : MoreRights
unfolding run check after_from
more_rights set user supervisor given = rw (range_granted user supervisor s) (go (check given))
  where
    s : State
    s = given.state

    -- the run from a state, by what is tested before any step
    run_of : Result (Unit {0}) Refusal → State → Run
    run_of t from = run_if t (run_from set (look_of given) (listed given) 0 (listed_count given) from given.bytes) from given.bytes

    start : Reached set (look_of given) (listed given) user supervisor (granted user supervisor s) given.bytes 0 s given.bytes
    start = record { state_is = refl; bytes_are = refl }

    go : (t : Result (Unit {0}) Refusal) → Beside set (look_of given) (listed given) user supervisor (granted user supervisor s) given.bytes (run_of t s) (run_of t (granted user supervisor s))
    go (Ok x) = beside_from set (look_of given) (listed given) user supervisor (granted user supervisor s) given.bytes 0 (listed_count given) s given.bytes start
    go (Err refusal) = ends_before set (look_of given) (listed given) user supervisor (granted user supervisor s) given.bytes 0 (Refused refusal) s given.bytes start
