-- The ways through WRSS, each by the tests and the store on it. Assumes nothing.
use Rattle.std.proofs.Common.{ℕ, ◌%◌, ◌≡◌, ◌∙◌, Bool, true, false, List, Ok, Err, eqb, eq-eqb, ne_eqb}
use Rattle.numbers.specs.Numbers.{byte_count}
use Rattle.accesses.specs.Access.{probe, written}
use Rattle.pages.specs.Pages.{Lookup}
use Rattle.memory.specs.Blocked.{against}
use Rattle.memory.specs.declared.blocked.Blocked.{Blocked}
use Rattle.numbers.specs.declared.size.Size.{Size}
use Rattle.answers.specs.Answer.{ud, gp}
use Rattle.processor.specs.State.{usable, next}
use Rattle.processor.specs.Accesses.{shadow}
use Rattle.answers.specs.Blame.{blame}
use Rattle.processor.specs.Outcomes.{completed, faulted, step_of}
use Rattle.processor.specs.Prog.{interp, operate}
use Rattle.processor.specs.declared.state.State.{State}
use Rattle.processor.proofs.Laws.{passed, halted, stored, not_stored, completes, faults}
use Rattle.wrss.specs.Wrss.{wrss}

module _ (look : Lookup) (bytes : List ℕ) (size : Size) (permitted : Bool) (a b span : ℕ) (s : State) where
  pub not_usable : usable s ≡ false → operate look (wrss size permitted a b span s) s bytes ≡ step_of (faulted s ud) bytes
  unfolding wrss
  not_usable u = faults look _ s bytes ud (halted look bytes (usable s) ud _ u)

  module _ (u : usable s ≡ true) where
    pub not_permitted_lem : permitted ≡ false → operate look (wrss size permitted a b span s) s bytes ≡ step_of (faulted s ud) bytes
    unfolding wrss
    not_permitted_lem p = faults look _ s bytes ud (passed look bytes (usable s) ud _ u ∙ halted look bytes permitted ud _ p)

    module _ (p : permitted ≡ true) where
      pub not_aligned : (a % byte_count size ≡ 0 → ⊥) → operate look (wrss size permitted a b span s) s bytes ≡ step_of (faulted s gp) bytes
      unfolding wrss
      not_aligned e =
          faults look _ s bytes gp
          (passed look bytes (usable s) ud _ u ∙ passed look bytes permitted ud _ p ∙ halted look bytes (eqb (a % byte_count size) 0) gp _ (ne_eqb _ _ e))

      module _ (aligned : a % byte_count size ≡ 0) where
        pub blocked : (why : Blocked) → against (shadow s a size true) (probe look (shadow s a size true)) ≡ Err why
            → operate look (wrss size permitted a b span s) s bytes ≡ step_of (faulted s (blame why.access why.failure)) bytes
        unfolding wrss
        blocked why e =
            faults look _ s bytes _
            (passed look bytes (usable s) ud _ u
            ∙ passed look bytes permitted ud _ p
            ∙ passed look bytes (eqb (a % byte_count size) 0) gp _ (eq-eqb _ _ aligned)
            ∙ not_stored look bytes (shadow s a size true) b _ why e)

        pub wrote : against (shadow s a size true) (probe look (shadow s a size true)) ≡ Ok tt
            → operate look (wrss size permitted a b span s) s bytes ≡ step_of (completed s (next s span)) (written look (shadow s a size true) b bytes)
        unfolding wrss interp
        wrote e =
            completes look _ s bytes _ _
            (passed look bytes (usable s) ud _ u
            ∙ passed look bytes permitted ud _ p
            ∙ passed look bytes (eqb (a % byte_count size) 0) gp _ (eq-eqb _ _ aligned)
            ∙ stored look bytes (shadow s a size true) b _ e)
