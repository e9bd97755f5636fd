-- The ways through WRUSS, each by the tests and the store on it. Assumes nothing.
use Rattle.std.proofs.Common.{ℕ, ◌%◌, ◌≡◌, ◌∙◌, true, false, List, Ok, Err, eqb, eq-eqb, ne_eqb}
use Rattle.numbers.specs.Numbers.{byte_count}
use Rattle.accesses.specs.Access.{probe, written}
use Rattle.pages.specs.Pages.{Lookup}
use Rattle.memory.specs.Blocked.{against}
use Rattle.memory.specs.declared.blocked.Blocked.{Blocked}
use Rattle.numbers.specs.declared.size.Size.{Size}
use Rattle.answers.specs.Answer.{ud, gp}
use Rattle.processor.specs.State.{next}
use Rattle.processor.specs.Layout.{with_ip}
use Rattle.answers.specs.Blame.{blame}
use Rattle.processor.specs.Outcomes.{completed, faulted, step_of}
use Rattle.processor.specs.Prog.{done, store, ◌>>◌, interp, operate}
use Rattle.processor.specs.declared.state.State.{State}
use Rattle.processor.proofs.Laws.{passed, halted, stored, not_stored, completes, faults}
use Rattle.wruss.specs.Wruss.{recognised, user_store, wruss}

module _ (look : Lookup) (bytes : List ℕ) (size : Size) (a b span : ℕ) (s : State) where
  pub not_recognised : recognised s ≡ false → operate look (wruss size a b span s) s bytes ≡ step_of (faulted s ud) bytes
  unfolding wruss
  not_recognised r = faults look _ s bytes ud (halted look bytes (recognised s) ud _ r)

  module _ (r : recognised s ≡ true) where
    pub not_kernel : (s.cpl ≡ 0 → ⊥) → operate look (wruss size a b span s) s bytes ≡ step_of (faulted s gp) bytes
    unfolding wruss
    not_kernel e = faults look _ s bytes gp (passed look bytes (recognised s) ud _ r ∙ halted look bytes (eqb s.cpl 0) gp _ (ne_eqb _ _ e))

    module _ (kernel : s.cpl ≡ 0) where
      pub not_aligned : (a % byte_count size ≡ 0 → ⊥) → operate look (wruss size a b span s) s bytes ≡ step_of (faulted s gp) bytes
      unfolding wruss
      not_aligned e =
          faults look _ s bytes gp
          (passed look bytes (recognised s) ud _ r ∙ passed look bytes (eqb s.cpl 0) gp _ (eq-eqb _ _ kernel) ∙ halted look bytes (eqb (a % byte_count size) 0) gp _ (ne_eqb _ _ e))

      module _ (aligned : a % byte_count size ≡ 0) where
        -- past the tests
        tested : interp look (wruss size a b span s) bytes ≡ interp look (store (user_store s a size) b >> done (with_ip s (next s span))) bytes
        unfolding wruss
        tested =
            passed look bytes (recognised s) ud _ r
            ∙ passed look bytes (eqb s.cpl 0) gp _ (eq-eqb _ _ kernel)
            ∙ passed look bytes (eqb (a % byte_count size) 0) gp _ (eq-eqb _ _ aligned)

        pub blocked : (why : Blocked) → against (user_store s a size) (probe look (user_store s a size)) ≡ Err why
            → operate look (wruss size a b span s) s bytes ≡ step_of (faulted s (blame why.access why.failure)) bytes
        blocked why e = faults look _ s bytes _ (tested ∙ not_stored look bytes (user_store s a size) b _ why e)

        pub wrote : against (user_store s a size) (probe look (user_store s a size)) ≡ Ok tt
            → operate look (wruss size a b span s) s bytes ≡ step_of (completed s (next s span)) (written look (user_store s a size) b bytes)
        unfolding interp
        wrote e = completes look _ s bytes _ _ (tested ∙ stored look bytes (user_store s a size) b _ e)
