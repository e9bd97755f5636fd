-- One program, and one list of instructions, over two memories of which the second extends the first. Unless the first comes to a page
-- fault, both go alike. Assumes nothing.
use Rattle.std.proofs.Common.{◌≡◌, ℕ, zero, suc, ◌<◌, Bool, true, false, cond, List, length, Ok, Err, Result, sym, refl, ◌∙◌, true≢false, arith}
use Rattle.accesses.specs.Access.{probe, value, written}
use Rattle.memory.specs.Extends.{Extends, Places}
use Rattle.pages.specs.Pages.{Lookup}
use Rattle.accesses.specs.declared.access.Access.{Access}
use Rattle.accesses.specs.declared.reach.Failure.TheVariants.{NotCanonical, NotListed, WrongKind}
use Rattle.memory.proofs.Laws.{length_written, ready_in_second, same_value, store_in_both, not_canonical_lem}
use Rattle.answers.specs.Blame.{blame}
use Rattle.processor.specs.Prog.{Prog, done, stop, fetch, put, Ending, ended, broken, on_reach, interp, Step, settle, operate}
use Rattle.answers.specs.declared.answer.Answer.TheVariants.{Faulted}
use Rattle.answers.specs.declared.answer.Fault.{Fault}
use Rattle.answers.specs.declared.answer.Refusal.TheVariants.{Instruction as BadForm}
use Rattle.accesses.specs.declared.reach.Failure.{Failure}
use Rattle.processor.specs.declared.state.State.{State}
use Rattle.instructions.specs.Permission.{hidden}
use Rattle.perform.specs.Exec.{InstructionSet, exec, refused, perform}
use Rattle.replay.specs.Run.{after_from}
use Rattle.instructions.specs.declared.instruction.Instruction.{Instruction}
use Rattle.claims.specs.MorePages.{is_page_fault}

-- the bytes that were lent to two lookups have become these, and the second memory still extends the first
pub record Beside (look₁ look₂ : Lookup) (lent₁ lent₂ bytes₁ bytes₂ : List ℕ) : Type 0 where
  pub extends : Extends look₁ bytes₁ look₂ bytes₂ lent₂
  pub kept₁ : length bytes₁ ≡ length lent₁
  pub kept₂ : length bytes₂ ≡ length lent₂

-- how a program ends in both memories: alike, or the first breaks off with a page fault and the second may go on
data ResultsAlike (look₁ look₂ : Lookup) (lent₁ lent₂ : List ℕ) (A : Type 0) (r₁ r₂ : Ending A) : Type 0 where
  both_end : (x : A) (bytes₁ bytes₂ : List ℕ) → r₁ ≡ ended x bytes₁ → r₂ ≡ ended x bytes₂ → Beside look₁ look₂ lent₁ lent₂ bytes₁ bytes₂ → ResultsAlike look₁ look₂ lent₁ lent₂ A r₁ r₂
  both_break : (fault : Fault) → r₁ ≡ broken fault → r₂ ≡ broken fault → ResultsAlike look₁ look₂ lent₁ lent₂ A r₁ r₂
  page_missing : (fault : Fault) → r₁ ≡ broken fault → is_page_fault (Faulted fault) ≡ true → ResultsAlike look₁ look₂ lent₁ lent₂ A r₁ r₂

-- the second step is the first, but for added pages
pub record StepsAlike (look₁ look₂ : Lookup) (lent₁ lent₂ : List ℕ) (now₁ now₂ : Step) : Type 0 where
  pub answer : now₂.answer ≡ now₁.answer
  pub state : now₂.state ≡ now₁.state
  pub memory : Beside look₁ look₂ lent₁ lent₂ now₁.bytes now₂.bytes

module _ (look₁ look₂ : Lookup) (lent₁ lent₂ : List ℕ) (places₁ : Places look₁ (length lent₁)) (places₂ : Places look₂ (length lent₂)) where
  -- ---- a program

  -- an access, and what comes after it
  reach : {A : Type 0} (bytes₁ bytes₂ : List ℕ) → Beside look₁ look₂ lent₁ lent₂ bytes₁ bytes₂ → (a : Access) (go₁ go₂ : Ending A)
      → (probe look₁ a ≡ Ok tt → ResultsAlike look₁ look₂ lent₁ lent₂ A go₁ go₂)
      → ResultsAlike look₁ look₂ lent₁ lent₂ A (on_reach a (probe look₁ a) go₁) (on_reach a (probe look₂ a) go₂)
  reach {A} bytes₁ bytes₂ b a go₁ go₂ later = by (probe look₁ a) refl
    where
      by : (r : Result (Unit {0}) Failure) → probe look₁ a ≡ r → ResultsAlike look₁ look₂ lent₁ lent₂ A (on_reach a r go₁) (on_reach a (probe look₂ a) go₂)
      by (Ok x) e = rw (ready_in_second look₁ bytes₁ look₂ bytes₂ lent₂ b.extends a e) (later e)
      by (Err NotCanonical) e = both_break (blame a NotCanonical) refl (rw (not_canonical_lem look₁ look₂ a e))
      by (Err (NotListed address)) e = page_missing (blame a (NotListed address)) refl refl
      by (Err (WrongKind address)) e = page_missing (blame a (WrongKind address)) refl refl

  -- a store that the first can do
  pub stored : (bytes₁ bytes₂ : List ℕ) → Beside look₁ look₂ lent₁ lent₂ bytes₁ bytes₂ → (a : Access) (v : ℕ) → probe look₁ a ≡ Ok tt
      → Beside look₁ look₂ lent₁ lent₂ (written look₁ a v bytes₁) (written look₂ a v bytes₂)
  stored bytes₁ bytes₂ b a v e = record {
    extends = store_in_both look₁ bytes₁ look₂ bytes₂ lent₂ (rw b.kept₁ places₁) (rw b.kept₂ places₂) b.extends a v e;
    kept₁ = length_written look₁ a v bytes₁ ∙ b.kept₁;
    kept₂ = length_written look₂ a v bytes₂ ∙ b.kept₂;
  }

  program : {A : Type 0} (p : Prog A) (bytes₁ bytes₂ : List ℕ) → Beside look₁ look₂ lent₁ lent₂ bytes₁ bytes₂
      → ResultsAlike look₁ look₂ lent₁ lent₂ A (interp look₁ p bytes₁) (interp look₂ p bytes₂)
  unfolding interp
  program (done x) bytes₁ bytes₂ b = both_end x bytes₁ bytes₂ refl refl b
  program (stop fault) bytes₁ bytes₂ b = both_break fault refl refl
  program (fetch a k) bytes₁ bytes₂ b =
      reach bytes₁ bytes₂ b a _ _ (λ e. rw (same_value look₁ bytes₁ look₂ bytes₂ lent₂ b.extends a e) (program (k (value look₂ bytes₂ a)) bytes₁ bytes₂ b))
  program (put a v p) bytes₁ bytes₂ b =
      reach bytes₁ bytes₂ b a _ _ (λ e. program p (written look₁ a v bytes₁) (written look₂ a v bytes₂) (stored bytes₁ bytes₂ b a v e))

  -- ---- an instruction

  -- what does not complete leaves the memories as they were, so they stay beside one another
  settled : (s : State) (bytes₁ bytes₂ : List ℕ) → Beside look₁ look₂ lent₁ lent₂ bytes₁ bytes₂ → (r₁ r₂ : Ending State) → ResultsAlike look₁ look₂ lent₁ lent₂ State r₁ r₂
      → is_page_fault (settle s bytes₁ r₁).answer ≡ false → StepsAlike look₁ look₂ lent₁ lent₂ (settle s bytes₁ r₁) (settle s bytes₂ r₂)
  settled s bytes₁ bytes₂ b r₁ r₂ (both_end last stored₁ stored₂ e₁ e₂ after) whole = rw (e₁, e₂) record { answer = refl; state = refl; memory = after }
  settled s bytes₁ bytes₂ b r₁ r₂ (both_break fault e₁ e₂) whole = rw (e₁, e₂) record { answer = refl; state = refl; memory = b }
  settled s bytes₁ bytes₂ b r₁ r₂ (page_missing fault e₁ page) whole = absurd (true≢false (sym page ∙ (rw e₁ at whole)))

  performed : (set : InstructionSet) (i : Instruction) (s : State) (bytes₁ bytes₂ : List ℕ) → Beside look₁ look₂ lent₁ lent₂ bytes₁ bytes₂
      → is_page_fault (perform set look₁ i s bytes₁).answer ≡ false → StepsAlike look₁ look₂ lent₁ lent₂ (perform set look₁ i s bytes₁) (perform set look₂ i s bytes₂)
  unfolding perform operate
  performed set i s bytes₁ bytes₂ b = by (set.fits i (hidden s))
    where
      now : Lookup → List ℕ → Bool → Step
      now look bytes t = cond t (settle s bytes (interp look (exec set i s) bytes)) (refused BadForm s bytes)

      by : (t : Bool) → is_page_fault (now look₁ bytes₁ t).answer ≡ false → StepsAlike look₁ look₂ lent₁ lent₂ (now look₁ bytes₁ t) (now look₂ bytes₂ t)
      by true whole = settled s bytes₁ bytes₂ b _ _ (program (exec set i s) bytes₁ bytes₂ b) whole
      by false whole = record { answer = refl; state = refl; memory = b }

  -- ---- some instructions, one after the other

  -- one more, after steps that are alike
  next : (set : InstructionSet) (i : Instruction) (now₁ now₂ : Step) → StepsAlike look₁ look₂ lent₁ lent₂ now₁ now₂ → is_page_fault (perform set look₁ i now₁.state now₁.bytes).answer ≡ false
      → StepsAlike look₁ look₂ lent₁ lent₂ (perform set look₁ i now₁.state now₁.bytes) (perform set look₂ i now₂.state now₂.bytes)
  next set i now₁ now₂ now whole = rw now.state (performed set i now₁.state now₁.bytes now₂.bytes now.memory whole)

  -- the first k, where none of them is a page fault in the first memory
  pub alike : (set : InstructionSet) (listed : ℕ → Instruction) (s : State) → Beside look₁ look₂ lent₁ lent₂ lent₁ lent₂
      → (k : ℕ) → ((j : ℕ) → j < k → is_page_fault (after_from set look₁ listed (suc j) s lent₁).answer ≡ false)
      → StepsAlike look₁ look₂ lent₁ lent₂ (after_from set look₁ listed k s lent₁) (after_from set look₂ listed k s lent₂)
  unfolding after_from
  alike set listed s b zero whole = record { answer = refl; state = refl; memory = b }
  alike set listed s b (suc k) whole = next set (listed k) _ _ (alike set listed s b k (λ j h. whole j (omega arith))) (whole k (omega arith))
