-- Demand 3 for page lists: more memory never alters an answer already given. Assumes nothing.
use Rattle.std.proofs.Common.{◌≡◌, ℕ, suc, ◌<◌, true, false, List, length, Ok, Err, Result, sym, refl, ◌∙◌, true≢false, arith}
use Rattle.accesses.specs.Access.{lookup_of}
use Rattle.memory.specs.Extends.{Extends, HoldsPages}
use Rattle.pages.specs.Pages.{listing}
use Rattle.memory.proofs.Laws.{lookup_kept, lookup_places, pages_extend, extends_pages}
use Rattle.answers.specs.declared.answer.Answer.{Answer}
use Rattle.answers.specs.declared.answer.Answer.TheVariants.{Completed}
use Rattle.answers.specs.declared.answer.Refusal.{Refusal}
use Rattle.processor.specs.declared.state.State.{State}
use Rattle.perform.specs.Exec.{InstructionSet, refused}
use Rattle.replay.specs.Run.{Input, look_of, listed, with_pages, check_by, check, Run, ends_at, run, after}
use Rattle.claims.specs.Ends.{Counted}
use Rattle.claims.specs.MorePages.{is_page_fault, SameMemory, EndsAlike, GoesAsFar, MorePages}
use Rattle.claims.proofs.Beside.{Beside, StepsAlike, alike}
use Rattle.claims.proofs.Counts.{one_more, completes, goes_as_far, ends_at_end, ends_at_stop}
use Rattle.claims.proofs.EndsProof.{refused_before, count_tied}

-- an instruction that completes has no page fault
pub no_fault : (a : Answer) → a ≡ Completed → is_page_fault a ≡ false
no_fault a e = rw e

-- `pages₂` and `lent₂` are the second list and the bytes that its run begins with
module _ (set : InstructionSet) (given : Input) (pages₂ lent₂ : List ℕ) (valid₁ : listing given.pages (length given.bytes) ≡ Ok tt) (valid₂ : listing pages₂ (length lent₂) ≡ Ok tt)
    (holds : HoldsPages given.pages given.bytes pages₂ lent₂) where
  abbrev more : Input
  more = with_pages given pages₂ lent₂

  -- from memories to page lists
  same_memory : (state₁ : State) (bytes₁ : List ℕ) (state₂ : State) (bytes₂ : List ℕ) → state₂ ≡ state₁ → Beside (look_of given) (look_of more) given.bytes lent₂ bytes₁ bytes₂
      → SameMemory given.pages pages₂ lent₂ state₁ bytes₁ state₂ bytes₂
  same_memory state₁ bytes₁ state₂ bytes₂ same b =
      let kept : Extends (lookup_of given.pages bytes₁) bytes₁ (lookup_of pages₂ bytes₂) bytes₂ lent₂ =
      rw (lookup_kept given.pages given.bytes bytes₁ b.kept₁, lookup_kept pages₂ lent₂ bytes₂ b.kept₂) b.extends
      in
      let both = extends_pages given.pages given.bytes bytes₁ pages₂ lent₂ bytes₂ (rw b.kept₁ valid₁) (rw b.kept₂ valid₂) b.kept₂ holds kept in
      record { registers = same; old = both.0; added = both.1 }

  -- both lists are valid, so what is tested before any step has one result
  pub same_test : check more ≡ check given
  unfolding check check_by
  same_test = rw (valid₁, valid₂)

  -- up to a page fault of the first
  pub same_after : (k : ℕ) → ((j : ℕ) → j < k → is_page_fault (after set given (suc j)).answer ≡ false)
      → StepsAlike (look_of given) (look_of more) given.bytes lent₂ (after set given k) (after set more k)
  same_after k whole =
      alike (look_of given) (look_of more) given.bytes lent₂ (lookup_places given.pages given.bytes) (lookup_places pages₂ lent₂) set (listed given) given.state
      record { extends = pages_extend given.pages given.bytes pages₂ lent₂ valid₂ holds; kept₁ = refl; kept₂ = refl } k whole

  -- what is claimed, of any two runs
  abbrev Claimed : Run → Run → Type 0
  Claimed r₁ r₂ =
      (is_page_fault r₁.answer ≡ false → EndsAlike given.pages pages₂ lent₂ r₁ r₂)
      × (is_page_fault r₁.answer ≡ true → GoesAsFar given.pages pages₂ lent₂ r₁ r₂ (after set more r₁.count))

  -- two runs that are refused alike before any step
  refused_alike : (refusal : Refusal) → Claimed (ends_at 0 (refused refusal given.state given.bytes)) (ends_at 0 (refused refusal given.state lent₂))
  refused_alike refusal = (
    λ other. record { count = refl; answer = refl; memory = record { registers = refl; old = holds; added = record { each = λ j h none. refl } } },
    λ page. absurd (true≢false (sym page)),
  )

  -- two runs of the steps
  module _ (r₁ r₂ : Run) (c₁ : Counted set given r₁) (c₂ : Counted set more r₂) where
    -- what the first completed had no page fault
    pub whole : (j : ℕ) → j < r₁.count → is_page_fault (after set given (suc j)).answer ≡ false
    whole j h = no_fault (after set given (suc j)).answer (c₁.completed j h)

    -- and the second completes it
    pub completed₂ : (j : ℕ) → j < r₁.count → (after set more (suc j)).answer ≡ Completed
    completed₂ j h = (same_after (suc j) (λ i below. whole i (omega arith))).answer ∙ c₁.completed j h

    -- at the first's count
    pub then_memory : SameMemory given.pages pages₂ lent₂ r₁.state r₁.bytes (after set more r₁.count).state (after set more r₁.count).bytes
    then_memory =
        let there = same_after r₁.count whole in
        same_memory _ _ _ _ (there.state ∙ sym c₁.state_after) (rw c₁.bytes_after there.memory)

    goes_on : GoesAsFar given.pages pages₂ lent₂ r₁ r₂ (after set more r₁.count)
    goes_on = record { count = goes_as_far set more r₂ c₂ r₁.count completed₂ c₁.few; memory = then_memory }

    -- the first stopped, without a page fault: the second stops there too
    stops_alike : (r₁.answer ≡ Completed → ⊥) → is_page_fault r₁.answer ≡ false → (r₂.count ≡ r₁.count) × (r₂.answer ≡ r₁.answer)
    stops_alike stops other =
        let stop₁ = c₁.at_stop stops in
        let next = same_after (suc r₁.count) (one_more _ r₁.count whole (rw stop₁.1 other)) in
        let same : (after set more (suc r₁.count)).answer ≡ r₁.answer = next.answer ∙ stop₁.1 in
        let end = ends_at_stop set more r₂ c₂ r₁.count completed₂ stop₁.0 (λ d. stops (sym same ∙ d)) in
        (end.0, end.1 ∙ same)

    ends_alike : is_page_fault r₁.answer ≡ false → EndsAlike given.pages pages₂ lent₂ r₁ r₂
    ends_alike other = record { count = both.0; answer = both.1; memory = rw (c₂.state_after, c₂.bytes_after, both.0) then_memory }
      where
        both : (r₂.count ≡ r₁.count) × (r₂.answer ≡ r₁.answer)
        both = elim (completes r₁.answer) [
          | yes e ↦ let end = ends_at_end set more r₂ c₂ r₁.count completed₂ (c₁.at_end e) in (end.0, end.1 ∙ sym e)
          | no stops ↦ stops_alike stops other
        ]

pub more_pages : MorePages
more_pages set given pages₂ lent₂ valid₁ valid₂ holds = by (check given) refl
  where
    same : check (with_pages given pages₂ lent₂) ≡ check given
    same = same_test set given pages₂ lent₂ valid₁ valid₂ holds

    by : (t : Result (Unit {0}) Refusal) → check given ≡ t → Claimed set given pages₂ lent₂ valid₁ valid₂ holds (run set given) (run set (with_pages given pages₂ lent₂))
    by (Ok x) e =
        let c₁ = count_tied set given e in
        let c₂ = count_tied set (with_pages given pages₂ lent₂) (same ∙ e) in
        (ends_alike set given pages₂ lent₂ valid₁ valid₂ holds _ _ c₁ c₂, λ page. goes_on set given pages₂ lent₂ valid₁ valid₂ holds _ _ c₁ c₂)
    by (Err refusal) e =
        rw (refused_before set given refusal e, refused_before set (with_pages given pages₂ lent₂) refusal (same ∙ e))
        (refused_alike set given pages₂ lent₂ valid₁ valid₂ holds refusal)
