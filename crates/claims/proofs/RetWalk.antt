-- RET walked: it loads the target from the ordinary stack and, where the shadow stack is enabled, the frame there, stores nothing,
-- and moves both pointers past what it popped. Assumes nothing.
use Rattle.std.proofs.Common.{◌≡◌, ℕ, true, false, cond, not, eqb, ◌⊎◌, List, refl, inl, inr}
use Rattle.numbers.specs.Numbers.{byte_count}
use Rattle.accesses.specs.Access.{value}
use Rattle.pages.specs.Pages.{Lookup}
use Rattle.accesses.specs.declared.access.Access.{Access}
use Rattle.answers.specs.Answer.{ss, gp, cp_near_ret}
use Rattle.processor.specs.Accesses.{shadow, ordinary}
use Rattle.processor.specs.Layout.{with_ip, with_sp, with_ssp}
use Rattle.processor.specs.State.{enabled, plus}
use Rattle.processor.specs.declared.state.State.{State}
use Rattle.targets.specs.Targets.{in_code, pushed, runs_past}
use Rattle.ret.specs.Ret.{pop_frame, new_ssp, ret}
use Rattle.claims.proofs.Walks.{Rule, Walks, ending_in, end_walks, then_walks, tested_walks, load_walks, picked_walks}

-- where the shadow stack is enabled, past the frame
abbrev pub past_frame : State → ℕ
past_frame s = cond (enabled s) (plus s s.ssp (byte_count (pushed s))) s.ssp

-- what is popped
abbrev pub target_at : State → Access
target_at s = ordinary s s.sp (pushed s) false

abbrev pub frame_at : State → Access
frame_at s = shadow s s.ssp (pushed s) false

abbrev pub ret_rule : Lookup → List ℕ → ℕ → State → Rule State
ret_rule look bytes count s =
    let target : ℕ = value look bytes (target_at s) in
    record {
      loads = λ a. (a ≡ target_at s) ⊎ (a ≡ frame_at s);
      stops = λ fault. (fault ≡ ss) ⊎ (fault ≡ gp) ⊎ (fault ≡ cp_near_ret);
      stores = λ a v. ⊥;
      ends = λ t. (in_code s target ≡ true) × (t ≡ with_ip (with_ssp (with_sp s (plus s (plus s s.sp (byte_count (pushed s))) count)) (past_frame s)) target);
    }

module _ (look : Lookup) (count : ℕ) (s : State) (bytes : List ℕ) where
  abbrev rule : Rule State
  rule = ret_rule look bytes count s

  -- SSP, past the frame where one is popped
  abbrev ssp_rule : Rule ℕ
  ssp_rule = ending_in rule (λ ssp. ssp ≡ past_frame s)

  ssp_walk : (target : ℕ) → Walks look ssp_rule (new_ssp s target) bytes
  unfolding new_ssp pop_frame
  ssp_walk target =
      picked_walks look ssp_rule (enabled s) _ _ bytes
      (λ e. load_walks look ssp_rule _ _ bytes (inr refl)
      (tested_walks look ssp_rule (eqb (value look bytes (frame_at s)) target) cp_near_ret _ bytes (inr (inr refl)) (λ same. end_walks look ssp_rule (plus s s.ssp (byte_count (pushed s))) bytes (rw e))))
      (λ e. end_walks look ssp_rule _ bytes (rw e))

  pub ret_walk : Walks look rule (ret count s) bytes
  unfolding ret
  ret_walk =
      tested_walks look rule (not (runs_past s s.sp)) ss _ bytes (inl refl) (λ e.
      load_walks look rule _ _ bytes (inl refl)
      (then_walks look rule (λ ssp. ssp ≡ past_frame s) _ _ bytes (ssp_walk _) (λ ssp after is.
      tested_walks look rule (in_code s _) gp _ after (inr (inl refl)) (λ inside.
      end_walks look rule _ after (inside, rw is)))))
