-- The ways through INCSSP, each by the tests and loads on it. Assumes nothing.
use Rattle.std.proofs.Common.{ℕ, ◌-◌, ◌*◌, ◌%◌, ◌≡◌, ◌∙◌, true, false, List, Ok, Err, arith, ltb, lt-ltb, le-ltb}
use Rattle.numbers.specs.Numbers.{byte_count}
use Rattle.accesses.specs.Access.{load as load_at}
use Rattle.pages.specs.Pages.{Lookup}
use Rattle.memory.specs.Blocked.{against}
use Rattle.memory.specs.declared.blocked.Blocked.{Blocked}
use Rattle.numbers.specs.declared.size.Size.{Size}
use Rattle.answers.specs.Answer.{ud}
use Rattle.processor.specs.State.{usable, plus, next}
use Rattle.processor.specs.Layout.{with_ssp}
use Rattle.processor.specs.Accesses.{shadow}
use Rattle.answers.specs.Blame.{blame}
use Rattle.processor.specs.Outcomes.{completed, faulted, step_of}
use Rattle.processor.specs.Prog.{interp, operate}
use Rattle.processor.specs.declared.state.State.{State}
use Rattle.processor.proofs.Laws.{passed, halted, entered, skipped, touched, not_touched, completes, faults}
use Rattle.incssp.specs.Incssp.{incssp}

module _ (look : Lookup) (bytes : List ℕ) (size : Size) (b span : ℕ) (s : State) where
  pub not_usable : usable s ≡ false → operate look (incssp size b span s) s bytes ≡ step_of (faulted s ud) bytes
  unfolding incssp
  not_usable u = faults look _ s bytes ud (halted look bytes (usable s) ud _ u)

  module _ (u : usable s ≡ true) where
    pub first_blocked : (why : Blocked) → against (shadow s s.ssp size false) (load_at look bytes (shadow s s.ssp size false)) ≡ Err why
        → operate look (incssp size b span s) s bytes ≡ step_of (faulted s (blame why.access why.failure)) bytes
    unfolding incssp
    first_blocked why e =
        faults look _ s bytes _ (passed look bytes (usable s) ud _ u ∙ not_touched look bytes (shadow s s.ssp size false) _ why e)

    module _ (v : ℕ) (first : against (shadow s s.ssp size false) (load_at look bytes (shadow s s.ssp size false)) ≡ Ok v) where
      pub none : b % 256 ≡ 0
          → operate look (incssp size b span s) s bytes ≡ step_of (completed (with_ssp s (plus s s.ssp (byte_count size * (b % 256)))) (next s span)) bytes
      unfolding incssp interp
      none e =
          completes look _ s bytes _ bytes
          (passed look bytes (usable s) ud _ u ∙ touched look bytes (shadow s s.ssp size false) _ v first ∙ skipped look bytes (ltb 0 (b % 256)) _ _ (le-ltb 0 (b % 256) (omega arith)))

      module _ (some : b % 256 ≡ 0 → ⊥) where
        pub last_blocked : (why : Blocked) → against (shadow s (plus s s.ssp (byte_count size * (b % 256 - 1))) size false) (load_at look bytes (shadow s (plus s s.ssp (byte_count size * (b % 256 - 1))) size false)) ≡ Err why
            → operate look (incssp size b span s) s bytes ≡ step_of (faulted s (blame why.access why.failure)) bytes
        unfolding incssp
        last_blocked why e =
            faults look _ s bytes _
            (passed look bytes (usable s) ud _ u
            ∙ touched look bytes (shadow s s.ssp size false) _ v first
            ∙ entered look bytes (ltb 0 (b % 256)) _ _ (lt-ltb 0 (b % 256) (omega arith))
            ∙ not_touched look bytes (shadow s (plus s s.ssp (byte_count size * (b % 256 - 1))) size false) _ why e)

        pub popped : (w : ℕ) → against (shadow s (plus s s.ssp (byte_count size * (b % 256 - 1))) size false) (load_at look bytes (shadow s (plus s s.ssp (byte_count size * (b % 256 - 1))) size false)) ≡ Ok w
            → operate look (incssp size b span s) s bytes ≡ step_of (completed (with_ssp s (plus s s.ssp (byte_count size * (b % 256)))) (next s span)) bytes
        unfolding incssp interp
        popped w e =
            completes look _ s bytes _ bytes
            (passed look bytes (usable s) ud _ u
            ∙ touched look bytes (shadow s s.ssp size false) _ v first
            ∙ entered look bytes (ltb 0 (b % 256)) _ _ (lt-ltb 0 (b % 256) (omega arith))
            ∙ touched look bytes (shadow s (plus s s.ssp (byte_count size * (b % 256 - 1))) size false) _ w e)
