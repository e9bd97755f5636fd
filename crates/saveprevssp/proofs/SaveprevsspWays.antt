-- The ways through SAVEPREVSSP, each by the tests and accesses on it. Assumes nothing.
use Prim.Native.Nat.{ℕ, ◌+◌, ◌%◌}
use mathlib.Core.Path.{◌≡◌, ◌∙◌, ap}
use mathlib.Core.Bool.{true, false, not, ◌&&◌}
use mathlib.Core.List.{List, [], ◌∷◌}
use Rattle.std.proofs.Common.{Ok, Err}
use lib.Dec.{eqb}
use borrow.Author.Tests.{eq-eqb, ne_eqb}
use Rattle.accesses.specs.Access.{load as load_at}
use Rattle.pages.specs.Pages.{Lookup}
use Rattle.numbers.specs.declared.size.Size.TheVariants.{Four, Eight}
use Rattle.memory.specs.Blocked.{against}
use Rattle.memory.specs.declared.blocked.Blocked.{Blocked}
use Rattle.stores.specs.Stores.{try_all, written_all}
use Rattle.stores.specs.declared.Store.{Store}
use Rattle.answers.specs.Answer.{ud, gp}
use Rattle.processor.specs.State.{is_long, long_bit, usable, plus, minus, next}
use Rattle.processor.specs.Layout.{with_ip, with_ssp}
use Rattle.processor.specs.Accesses.{shadow}
use Rattle.answers.specs.Blame.{blame}
use Rattle.processor.specs.Outcomes.{completed, faulted, step_of}
use Rattle.processor.specs.Prog.{done, ◌>>=◌, ◌>>◌, ended, broken, interp, settle, operate}
use Rattle.answers.specs.declared.answer.Fault.{Fault}
use Rattle.processor.specs.declared.state.State.{State}
use Rattle.processor.proofs.Laws.{passed, halted, loaded, not_loaded, put_all, all_stored, none_stored, continues, breaks, completes, faults}
use Rattle.processor.specs.Bits.{multiple}
use Rattle.saveprevssp.specs.Saveprevssp.{carry, pop_hole, new_top, saved_token, leave_token, saveprevssp}

-- ---- the hole

module _ (look : Lookup) (bytes : List ℕ) (s : State) (top : ℕ) where
  pub hole_blocked : (b : Blocked) → against (shadow s top Four false) (load_at look bytes (shadow s top Four false)) ≡ Err b → interp look (pop_hole s top) bytes ≡ broken (blame b.access b.failure)
  unfolding pop_hole
  hole_blocked b e = not_loaded look bytes (shadow s top Four false) _ b e

  pub hole_filled : (hole : ℕ) → against (shadow s top Four false) (load_at look bytes (shadow s top Four false)) ≡ Ok hole → (hole ≡ 0 → ⊥) → interp look (pop_hole s top) bytes ≡ broken gp
  unfolding pop_hole
  hole_filled hole e full = loaded look bytes (shadow s top Four false) _ hole e ∙ halted look bytes (eqb hole 0) gp _ (ne_eqb _ _ full)

  pub hole_popped : (hole : ℕ) → against (shadow s top Four false) (load_at look bytes (shadow s top Four false)) ≡ Ok hole → hole ≡ 0 → interp look (pop_hole s top) bytes ≡ ended (plus s top 4) bytes
  unfolding pop_hole interp
  hole_popped hole e empty = loaded look bytes (shadow s top Four false) _ hole e ∙ passed look bytes (eqb hole 0) gp _ (eq-eqb _ _ empty)

  pub no_hole : carry s ≡ false → interp look (new_top s top) bytes ≡ ended top bytes
  unfolding new_top interp
  no_hole c = passed look bytes (not (carry s && is_long s)) gp _ (rw c) ∙ rw c

  pub hole_in_long : carry s ≡ true → is_long s ≡ true → interp look (new_top s top) bytes ≡ broken gp
  unfolding new_top
  hole_in_long c l = halted look bytes (not (carry s && is_long s)) gp _ (rw (c, l))

  pub a_hole : carry s ≡ true → is_long s ≡ false → interp look (new_top s top) bytes ≡ interp look (pop_hole s top) bytes
  unfolding new_top
  a_hole c l = passed look bytes (not (carry s && is_long s)) gp _ (rw (c, l)) ∙ rw c

-- ---- with the token popped

-- what is left behind, as the code has it: the zero bytes and the restore token
abbrev pub left_stores : ℕ → State → List Store
left_stores token s =
    record { access = shadow s (minus s (multiple 4 token) 4) Four true; value = 0 }
    ∷ record { access = shadow s (minus s (multiple 8 (multiple 4 token)) 8) Eight true; value = multiple 4 token + long_bit s }
    ∷ []

module _ (look : Lookup) (bytes : List ℕ) (token span : ℕ) (s : State) where
  pub top_failed : (fault : Fault) → interp look (new_top s (plus s s.ssp 8)) bytes ≡ broken fault → operate look (leave_token token span s) s bytes ≡ step_of (faulted s fault) bytes
  unfolding leave_token
  top_failed fault e = faults look _ s bytes fault (breaks look _ (new_top s (plus s s.ssp 8)) bytes fault e)

  module _ (top : ℕ) (t : interp look (new_top s (plus s s.ssp 8)) bytes ≡ ended top bytes) where
    pub not_saved : saved_token s token ≡ false → operate look (leave_token token span s) s bytes ≡ step_of (faulted s gp) bytes
    unfolding leave_token
    not_saved e = faults look _ s bytes gp (continues look _ (new_top s (plus s s.ssp 8)) bytes top bytes t ∙ halted look bytes (saved_token s token) gp _ e)

    module _ (saved : saved_token s token ≡ true) where
      -- past the token's checks
      past_checks : interp look (leave_token token span s) bytes ≡ interp look (put_all (left_stores token s) >> done (with_ip (with_ssp s top) (next s span))) bytes
      unfolding leave_token ◌>>=◌ put_all
      past_checks = continues look _ (new_top s (plus s s.ssp 8)) bytes top bytes t ∙ passed look bytes (saved_token s token) gp _ saved

      pub not_left : (b : Blocked) → try_all look (left_stores token s) ≡ Err b
          → operate look (leave_token token span s) s bytes ≡ step_of (faulted s (blame b.access b.failure)) bytes
      not_left b e = faults look _ s bytes _ (past_checks ∙ none_stored look _ (left_stores token s) bytes b e)

      pub left_behind : try_all look (left_stores token s) ≡ Ok tt
          → operate look (leave_token token span s) s bytes ≡ step_of (completed (with_ssp s top) (next s span)) (written_all look (left_stores token s) bytes)
      unfolding interp
      left_behind e = completes look _ s bytes _ _ (past_checks ∙ all_stored look _ (left_stores token s) bytes e)

-- ---- the whole

module _ (look : Lookup) (bytes : List ℕ) (span : ℕ) (s : State) where
  pub not_usable : usable s ≡ false → operate look (saveprevssp span s) s bytes ≡ step_of (faulted s ud) bytes
  unfolding saveprevssp
  not_usable u = faults look _ s bytes ud (halted look bytes (usable s) ud _ u)

  module _ (u : usable s ≡ true) where
    pub not_aligned : (s.ssp % 8 ≡ 0 → ⊥) → operate look (saveprevssp span s) s bytes ≡ step_of (faulted s gp) bytes
    unfolding saveprevssp
    not_aligned e = faults look _ s bytes gp (passed look bytes (usable s) ud _ u ∙ halted look bytes (eqb (s.ssp % 8) 0) gp _ (ne_eqb _ _ e))

    module _ (aligned : s.ssp % 8 ≡ 0) where
      pub blocked : (b : Blocked) → against (shadow s s.ssp Eight false) (load_at look bytes (shadow s s.ssp Eight false)) ≡ Err b
          → operate look (saveprevssp span s) s bytes ≡ step_of (faulted s (blame b.access b.failure)) bytes
      unfolding saveprevssp
      blocked b e =
          faults look _ s bytes _
          (passed look bytes (usable s) ud _ u
          ∙ passed look bytes (eqb (s.ssp % 8) 0) gp _ (eq-eqb _ _ aligned)
          ∙ not_loaded look bytes (shadow s s.ssp Eight false) _ b e)

      pub popped : (token : ℕ) → against (shadow s s.ssp Eight false) (load_at look bytes (shadow s s.ssp Eight false)) ≡ Ok token → operate look (saveprevssp span s) s bytes ≡ operate look (leave_token token span s) s bytes
      unfolding saveprevssp operate
      popped token e =
          ap (settle s bytes)
          (passed look bytes (usable s) ud _ u
          ∙ passed look bytes (eqb (s.ssp % 8) 0) gp _ (eq-eqb _ _ aligned)
          ∙ loaded look bytes (shadow s s.ssp Eight false) _ token e)
