-- CALL walked: it loads nothing, stores Next on the ordinary stack and, where it makes a frame, on the shadow stack, and moves the
-- pointers below what it pushed. Assumes nothing.
use Rattle.std.proofs.Common.{◌≡◌, ℕ, Bool, true, cond, not, ◌⊎◌, List, refl, inl, inr}
use Rattle.numbers.specs.Numbers.{byte_count}
use Rattle.pages.specs.Pages.{Lookup}
use Rattle.accesses.specs.declared.access.Access.{Access}
use Rattle.answers.specs.Answer.{ss, gp}
use Rattle.processor.specs.Accesses.{shadow, ordinary}
use Rattle.processor.specs.Layout.{with_ip, with_sp, with_ssp}
use Rattle.processor.specs.State.{minus, next}
use Rattle.processor.specs.declared.state.State.{State}
use Rattle.targets.specs.Targets.{in_code, pushed, runs_past}
use Rattle.call.specs.Call.{pushes_frame, call}
use Rattle.claims.proofs.Walks.{Rule, Walks, end_walks, tested_walks, store_walks, only_walks}

-- SP and SSP below what is pushed
abbrev pub below_sp : State → ℕ
below_sp s = minus s s.sp (byte_count (pushed s))

abbrev pub below_ssp : State → Bool → ℕ
below_ssp s framed = cond (pushes_frame s framed) (minus s s.ssp (byte_count (pushed s))) s.ssp

-- what is pushed
pub data Pushed (framed : Bool) (span : ℕ) (s : State) : Access → ℕ → Type 0 where
  push : Pushed framed span s (ordinary s (below_sp s) (pushed s) true) (next s span)
  frame : pushes_frame s framed ≡ true → Pushed framed span s (shadow s (minus s s.ssp (byte_count (pushed s))) (pushed s) true) (next s span)

abbrev pub call_rule : ℕ → Bool → ℕ → State → Rule State
call_rule target framed span s =
    record {
      loads = λ a. ⊥;
      stops = λ fault. (fault ≡ gp) ⊎ (fault ≡ ss);
      stores = Pushed framed span s;
      ends = λ t. (in_code s target ≡ true) × (t ≡ with_ip (with_ssp (with_sp s (below_sp s)) (below_ssp s framed)) target);
    }

pub call_walk : (look : Lookup) (target : ℕ) (framed : Bool) (span : ℕ) (s : State) (bytes : List ℕ) → Walks look (call_rule target framed span s) (call target framed span s) bytes
unfolding call
call_walk look target framed span s bytes =
    tested_walks look rule (in_code s target) gp _ bytes (inl refl) (λ inside.
    tested_walks look rule (not (runs_past s (below_sp s))) ss _ bytes (inr refl) (λ e.
    store_walks look rule _ _ _ bytes push
    (only_walks look rule (pushes_frame s framed) _ _ _
    (λ made. store_walks look rule _ _ _ _ (frame made) (end_walks look rule _ _ (inside, refl)))
    (λ none. end_walks look rule _ _ (inside, refl)))))
  where
    rule : Rule State
    rule = call_rule target framed span s
