-- SAVEPREVSSP walked: it loads the token at SSP and, where CF is set, the hole above it; it leaves a hole and a token below the old
-- SSP that the token names, and moves SSP past what it popped. Assumes nothing.
use Rattle.std.proofs.Common.{◌≡◌, ℕ, ◌+◌, ◌%◌, true, false, cond, not, ◌&&◌, eqb, ◌⊎◌, List, refl, inl, inr}
use Rattle.accesses.specs.Access.{value}
use Rattle.pages.specs.Pages.{Lookup}
use Rattle.accesses.specs.declared.access.Access.{Access}
use Rattle.numbers.specs.declared.size.Size.TheVariants.{Four, Eight}
use Rattle.answers.specs.Answer.{ud, gp}
use Rattle.processor.specs.Accesses.{shadow}
use Rattle.processor.specs.Layout.{with_ip, with_ssp}
use Rattle.processor.specs.State.{is_long, long_bit, usable, plus, minus, next}
use Rattle.processor.specs.declared.state.State.{State}
use Rattle.processor.specs.Bits.{multiple}
use Rattle.saveprevssp.specs.Saveprevssp.{carry, pop_hole, new_top, saved_token, leave_token, saveprevssp}
use Rattle.claims.proofs.Walks.{Rule, Walks, ending_in, end_walks, then_walks, tested_walks, load_walks, store_walks, picked_walks}

-- past the token and, where CF is set, past the hole
abbrev pub past_token : State → ℕ
past_token s = cond (carry s) (plus s (plus s s.ssp 8) 4) (plus s s.ssp 8)

-- what is popped
abbrev pub token_at : State → Access
token_at s = shadow s s.ssp Eight false

abbrev pub hole_at : State → Access
hole_at s = shadow s (plus s s.ssp 8) Four false

-- the SSP that the token names
abbrev pub old_ssp : Lookup → List ℕ → State → ℕ
old_ssp look bytes s = multiple 4 (value look bytes (token_at s))

-- what is left there
pub data Left (s : State) (old : ℕ) : Access → ℕ → Type 0 where
  hole : Left s old (shadow s (minus s old 4) Four true) 0
  token : Left s old (shadow s (minus s (multiple 8 old) 8) Eight true) (old + long_bit s)

abbrev pub saveprevssp_rule : Lookup → List ℕ → ℕ → State → Rule State
saveprevssp_rule look bytes span s =
    record {
      loads = λ a. (a ≡ token_at s) ⊎ (a ≡ hole_at s);
      stops = λ fault. (fault ≡ ud) ⊎ (fault ≡ gp);
      stores = Left s (old_ssp look bytes s);
      ends = λ t. t ≡ with_ip (with_ssp s (past_token s)) (next s span);
    }

module _ (look : Lookup) (span : ℕ) (s : State) (bytes : List ℕ) where
  abbrev rule : Rule State
  rule = saveprevssp_rule look bytes span s

  -- SSP, past the hole where there is one
  abbrev top_rule : Rule ℕ
  top_rule = ending_in rule (λ top. top ≡ past_token s)

  top_walk : Walks look top_rule (new_top s (plus s s.ssp 8)) bytes
  unfolding new_top pop_hole
  top_walk =
      tested_walks look top_rule (not (carry s && is_long s)) gp _ bytes (inr refl) (λ e.
      picked_walks look top_rule (carry s) _ _ bytes
      (λ c. load_walks look top_rule _ _ bytes (inr refl)
      (tested_walks look top_rule (eqb (value look bytes (hole_at s)) 0) gp _ bytes (inr refl) (λ empty. end_walks look top_rule (plus s (plus s s.ssp 8) 4) bytes (rw c))))
      (λ c. end_walks look top_rule _ bytes (rw c)))

  pub saveprevssp_walk : Walks look rule (saveprevssp span s) bytes
  unfolding saveprevssp leave_token
  saveprevssp_walk =
      tested_walks look rule (usable s) ud _ bytes (inl refl) (λ u.
      tested_walks look rule (eqb (s.ssp % 8) 0) gp _ bytes (inr refl) (λ e.
      load_walks look rule _ _ bytes (inl refl)
      (then_walks look rule (λ top. top ≡ past_token s) _ _ bytes top_walk (λ top after is.
      tested_walks look rule (saved_token s _) gp _ after (inr refl) (λ good.
      store_walks look rule _ _ _ after hole
      (store_walks look rule _ _ _ _ token
      (end_walks look rule _ _ (rw is))))))))
