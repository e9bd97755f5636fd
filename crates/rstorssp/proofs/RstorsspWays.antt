-- The ways through RSTORSSP, each by the tests and the load on it. Assumes nothing.
use Prim.Native.Nat.{ℕ, ◌+◌, ◌%◌}
use mathlib.Core.Path.{◌≡◌, ◌∙◌}
use mathlib.Core.Bool.{true, false}
use mathlib.Core.List.{List}
use Rattle.std.proofs.Common.{rules, Result, Ok, Err}
use lib.Dec.{eqb}
use borrow.Author.Tests.{eq-eqb, ne_eqb}
use Rattle.accesses.specs.Access.{probe, value, written, loaded_if, load as load_at}
use Rattle.pages.specs.Pages.{Lookup}
use Rattle.accesses.specs.declared.access.Access.{Access}
use Rattle.accesses.specs.declared.reach.Failure.{Failure}
use Rattle.numbers.specs.declared.size.Size.TheVariants.{Eight}
use Rattle.memory.specs.Blocked.{against}
use Rattle.memory.specs.declared.blocked.Blocked.{Blocked}
use Rattle.answers.specs.Answer.{ud, gp, cp_rstorssp}
use Rattle.processor.specs.State.{usable, long_bit, plus, next}
use Rattle.processor.specs.Layout.{with_ssp, with_flags}
use Rattle.processor.specs.Accesses.{shadow}
use Rattle.answers.specs.Blame.{blame}
use Rattle.processor.specs.Outcomes.{completed, faulted, step_of}
use Rattle.processor.specs.Prog.{interp, operate}
use Rattle.processor.specs.declared.state.State.{State}
use Rattle.processor.proofs.Laws.{passed, halted, loaded, not_loaded, stored, completes, faults}
use Rattle.processor.specs.Bits.{bit}
use Rattle.rstorssp.specs.Rstorssp.{good_token, restored_flags, rstorssp}

-- what was loaded can be stored over
pub loaded_can : (look : Lookup) (bytes : List ℕ) (a : Access) (v : ℕ) → against a (load_at look bytes a) ≡ Ok v → (b : Blocked) → against a (probe look a) ≡ Err b → ⊥
unfolding load_at
loaded_can look bytes a v loaded b = go (probe look a) loaded
  where
    go : (r : Result (Unit {0}) Failure) → against a (loaded_if r (value look bytes a)) ≡ Ok v → against a r ≡ Err b → ⊥
    go (Ok x) e f = search rules
    go (Err failure) e f = search rules

module _ (look : Lookup) (bytes : List ℕ) (a span : ℕ) (s : State) where
  pub not_usable : usable s ≡ false → operate look (rstorssp a span s) s bytes ≡ step_of (faulted s ud) bytes
  unfolding rstorssp
  not_usable u = faults look _ s bytes ud (halted look bytes (usable s) ud _ u)

  module _ (u : usable s ≡ true) where
    pub not_aligned : (a % 8 ≡ 0 → ⊥) → operate look (rstorssp a span s) s bytes ≡ step_of (faulted s gp) bytes
    unfolding rstorssp
    not_aligned e = faults look _ s bytes gp (passed look bytes (usable s) ud _ u ∙ halted look bytes (eqb (a % 8) 0) gp _ (ne_eqb _ _ e))

    module _ (aligned : a % 8 ≡ 0) where
      pub blocked : (b : Blocked) → against (shadow s a Eight true) (load_at look bytes (shadow s a Eight true)) ≡ Err b
          → operate look (rstorssp a span s) s bytes ≡ step_of (faulted s (blame b.access b.failure)) bytes
      unfolding rstorssp
      blocked b e =
          faults look _ s bytes _
          (passed look bytes (usable s) ud _ u
          ∙ passed look bytes (eqb (a % 8) 0) gp _ (eq-eqb _ _ aligned)
          ∙ not_loaded look bytes (shadow s a Eight true) _ b e)

      module _ (token : ℕ) (found : against (shadow s a Eight true) (load_at look bytes (shadow s a Eight true)) ≡ Ok token) where
        pub bad_token : good_token s a token ≡ false → operate look (rstorssp a span s) s bytes ≡ step_of (faulted s cp_rstorssp) bytes
        unfolding rstorssp
        bad_token e =
            faults look _ s bytes cp_rstorssp
            (passed look bytes (usable s) ud _ u
            ∙ passed look bytes (eqb (a % 8) 0) gp _ (eq-eqb _ _ aligned)
            ∙ loaded look bytes (shadow s a Eight true) _ token found
            ∙ halted look bytes (good_token s a token) cp_rstorssp _ e)

        pub restored : good_token s a token ≡ true → against (shadow s a Eight true) (probe look (shadow s a Eight true)) ≡ Ok tt
            → operate look (rstorssp a span s) s bytes
            ≡ step_of (completed (with_flags (with_ssp s a) (restored_flags s.flags (bit 2 token))) (next s span)) (written look (shadow s a Eight true) (plus s s.ssp (long_bit s + 2)) bytes)
        unfolding rstorssp interp
        restored e can =
            completes look _ s bytes _ _
            (passed look bytes (usable s) ud _ u
            ∙ passed look bytes (eqb (a % 8) 0) gp _ (eq-eqb _ _ aligned)
            ∙ loaded look bytes (shadow s a Eight true) _ token found
            ∙ passed look bytes (good_token s a token) cp_rstorssp _ e
            ∙ stored look bytes (shadow s a Eight true) (plus s s.ssp (long_bit s + 2)) _ can)
