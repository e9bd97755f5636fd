-- The order of a page list has no meaning of its own: two runs over the same pages end alike, page faults included. Assumes nothing.
use Rattle.std.proofs.Common.{◌≡◌, ℕ, suc, Bool, true, false, cond, List, length, Ok, Err, Result, sym, refl, ◌∙◌, true≢false}
use Rattle.accesses.specs.Access.{probe, value, written}
use Rattle.memory.specs.Extends.{Places, HoldsPages}
use Rattle.pages.specs.Pages.{Lookup, listing}
use Rattle.accesses.specs.declared.access.Access.{Access}
use Rattle.memory.proofs.Laws.{lookup_places, same_value, alike_probe, order_free as same-cells}
use Rattle.processor.specs.Prog.{Prog, done, stop, fetch, put, Ending, on_reach, interp, settle, operate}
use Rattle.answers.specs.declared.answer.Answer.{Answer}
use Rattle.answers.specs.declared.answer.Answer.TheVariants.{Completed}
use Rattle.answers.specs.declared.answer.Refusal.TheVariants.{Instruction as BadForm}
use Rattle.answers.specs.declared.answer.Refusal.{Refusal}
use Rattle.accesses.specs.declared.reach.Failure.{Failure}
use Rattle.processor.specs.declared.state.State.{State}
use Rattle.instructions.specs.Permission.{hidden}
use Rattle.perform.specs.Exec.{InstructionSet, exec, refused, perform}
use Rattle.replay.specs.Run.{Input, look_of, listed, with_pages, check, Run, run, after_from, after}
use Rattle.instructions.specs.declared.instruction.Instruction.{Instruction}
use Rattle.claims.specs.Ends.{Counted}
use Rattle.claims.specs.ListOrder.{SameEnd, OrderFree}
use Rattle.claims.specs.MorePages.{is_page_fault, EndsAlike}
use Rattle.claims.proofs.Beside.{Beside, stored}
use Rattle.claims.proofs.Counts.{ends_at_stop}
use Rattle.claims.proofs.EndsProof.{refused_before, count_tied}
use Rattle.claims.proofs.MorePagesProof.{no_fault, same_test, same_after, whole, completed₂, then_memory, more_pages}

-- ---- one instruction, over lookups that find the same for every access

module _ (look₁ look₂ : Lookup) (lent₁ lent₂ : List ℕ) (places₁ : Places look₁ (length lent₁)) (places₂ : Places look₂ (length lent₂)) (tried : (a : Access) → probe look₁ a ≡ probe look₂ a) where
  -- `before₁` and `before₂` are the bytes that a fault gives back; the program's own have moved on since
  module _ (s : State) (before₁ before₂ : List ℕ) where
    abbrev SameAnswer : Ending State → Ending State → Type 0
    SameAnswer r₁ r₂ = (settle s before₂ r₂).answer ≡ (settle s before₁ r₁).answer

    -- an access, and what comes after it
    reach : (a : Access) (go₁ go₂ : Ending State) → (probe look₁ a ≡ Ok tt → SameAnswer go₁ go₂) → SameAnswer (on_reach a (probe look₁ a) go₁) (on_reach a (probe look₂ a) go₂)
    reach a go₁ go₂ later = rw (← tried a) (by (probe look₁ a) refl)
      where
        by : (r : Result (Unit {0}) Failure) → probe look₁ a ≡ r → SameAnswer (on_reach a r go₁) (on_reach a r go₂)
        by (Ok x) e = later e
        by (Err failure) e = refl

    program : (p : Prog State) (bytes₁ bytes₂ : List ℕ) → Beside look₁ look₂ lent₁ lent₂ bytes₁ bytes₂ → SameAnswer (interp look₁ p bytes₁) (interp look₂ p bytes₂)
    unfolding interp
    program (done last) bytes₁ bytes₂ b = refl
    program (stop fault) bytes₁ bytes₂ b = refl
    program (fetch a k) bytes₁ bytes₂ b =
        reach a _ _ (λ e. rw (same_value look₁ bytes₁ look₂ bytes₂ lent₂ b.extends a e) (program (k (value look₂ bytes₂ a)) bytes₁ bytes₂ b))
    program (put a v p) bytes₁ bytes₂ b =
        reach a _ _ (λ e. program p (written look₁ a v bytes₁) (written look₂ a v bytes₂) (stored look₁ look₂ lent₁ lent₂ places₁ places₂ bytes₁ bytes₂ b a v e))

  -- a page fault names the same address in both
  same_answer : (set : InstructionSet) (i : Instruction) (s : State) (bytes₁ bytes₂ : List ℕ) → Beside look₁ look₂ lent₁ lent₂ bytes₁ bytes₂
      → (perform set look₂ i s bytes₂).answer ≡ (perform set look₁ i s bytes₁).answer
  unfolding perform operate
  same_answer set i s bytes₁ bytes₂ b = by (set.fits i (hidden s))
    where
      now : Lookup → List ℕ → Bool → Answer
      now look bytes t = (cond t (settle s bytes (interp look (exec set i s) bytes)) (refused BadForm s bytes)).answer

      by : (t : Bool) → now look₂ bytes₂ t ≡ now look₁ bytes₁ t
      by true = program s bytes₁ bytes₂ (exec set i s) bytes₁ bytes₂ b
      by false = refl

-- ---- whole runs

-- more pages never alter an answer, so without a page fault nothing is left to show
without_fault : (pages₁ pages₂ lent₂ : List ℕ) (r₁ r₂ : Run) → EndsAlike pages₁ pages₂ lent₂ r₁ r₂ → SameEnd pages₁ pages₂ r₁ r₂
without_fault pages₁ pages₂ lent₂ r₁ r₂ alike = record { count = alike.count; answer = alike.answer; registers = alike.memory.registers; bytes = alike.memory.old }

module _ (set : InstructionSet) (given : Input) (pages₂ lent₂ : List ℕ) (valid₁ : listing given.pages (length given.bytes) ≡ Ok tt) (valid₂ : listing pages₂ (length lent₂) ≡ Ok tt)
    (there : HoldsPages given.pages given.bytes pages₂ lent₂) (back : HoldsPages pages₂ lent₂ given.pages given.bytes) where
  abbrev other : Input
  other = with_pages given pages₂ lent₂

  -- What trying finds depends on where addresses lead, which no store alters: it is enough that the lent bytes are alike.
  tried : (a : Access) → probe (look_of given) a ≡ probe (look_of other) a
  tried = alike_probe (look_of given) given.bytes (look_of other) lent₂ (same-cells given.pages given.bytes pages₂ lent₂ valid₁ valid₂ there back)

  module _ (r₁ r₂ : Run) (c₁ : Counted set given r₁) (c₂ : Counted set other r₂) where
    -- the instruction after those that completed has one answer in both
    next_answer : (after set other (suc r₁.count)).answer ≡ (after set given (suc r₁.count)).answer
    unfolding after_from
    next_answer =
        let now = same_after set given pages₂ lent₂ valid₁ valid₂ there r₁.count (whole set given pages₂ lent₂ valid₁ valid₂ there r₁ r₂ c₁ c₂) in
        rw now.state
        (same_answer (look_of given) (look_of other) given.bytes lent₂ (lookup_places given.pages given.bytes) (lookup_places pages₂ lent₂) tried
        set (listed given r₁.count) _ _ _ now.memory)

    -- the first ends with a page fault: the second ends there too, with the same one
    at_fault : is_page_fault r₁.answer ≡ true → SameEnd given.pages pages₂ r₁ r₂
    at_fault page =
        let stop₁ = c₁.at_stop stops in
        let same : (after set other (suc r₁.count)).answer ≡ r₁.answer = next_answer ∙ stop₁.1 in
        let before = completed₂ set given pages₂ lent₂ valid₁ valid₂ there r₁ r₂ c₁ c₂ in
        let end = ends_at_stop set other r₂ c₂ r₁.count before stop₁.0 (λ d. stops (sym same ∙ d)) in
        let memory = then_memory set given pages₂ lent₂ valid₁ valid₂ there r₁ r₂ c₁ c₂ in
        record {
          count = end.0;
          answer = end.1 ∙ same;
          registers = rw (c₂.state_after, end.0) memory.registers;
          bytes = rw (c₂.bytes_after, end.0) memory.old;
        }
      where
        stops : r₁.answer ≡ Completed → ⊥
        stops e = true≢false (sym page ∙ no_fault r₁.answer e)

pub order_free : OrderFree
order_free set given pages₂ lent₂ valid₁ valid₂ there back = by (check given) refl
  where
    r₁ : Run
    r₁ = run set given

    r₂ : Run
    r₂ = run set (with_pages given pages₂ lent₂)

    no_page_fault : is_page_fault r₁.answer ≡ false → SameEnd given.pages pages₂ r₁ r₂
    no_page_fault no_page = without_fault given.pages pages₂ lent₂ r₁ r₂ ((more_pages set given pages₂ lent₂ valid₁ valid₂ there).0 no_page)

    by : (t : Result (Unit {0}) Refusal) → check given ≡ t → SameEnd given.pages pages₂ r₁ r₂
    by (Ok x) e = ends (is_page_fault r₁.answer) refl
      where
        c₂ : Counted set (with_pages given pages₂ lent₂) r₂
        c₂ = count_tied set (with_pages given pages₂ lent₂) (same_test set given pages₂ lent₂ valid₁ valid₂ there ∙ e)

        ends : (page : Bool) → is_page_fault r₁.answer ≡ page → SameEnd given.pages pages₂ r₁ r₂
        ends true page = at_fault set given pages₂ lent₂ valid₁ valid₂ there back r₁ r₂ (count_tied set given e) c₂ page
        ends false page = no_page_fault page
    by (Err refusal) e = no_page_fault (rw (refused_before set given refusal e))
