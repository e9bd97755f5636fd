-- The ways through near CALL, each by the tests and stores on it. Assumes nothing.
use Prim.Native.Nat.{ℕ}
use mathlib.Core.Path.{◌≡◌, refl, ◌∙◌, ap}
use mathlib.Core.Bool.{Bool, true, false, not, cond}
use mathlib.Core.List.{List, [], ◌∷◌}
use Rattle.std.proofs.Common.{Result, Ok, Err, Option, Some, None}
use Rattle.numbers.specs.Numbers.{byte_count}
use Rattle.pages.specs.Pages.{Lookup}
use Rattle.memory.specs.declared.blocked.Blocked.{Blocked}
use Rattle.stores.specs.Stores.{try_all, written_all}
use Rattle.stores.specs.declared.Store.{Store}
use Rattle.answers.specs.Answer.{ss, gp}
use Rattle.processor.specs.State.{minus, next}
use Rattle.processor.specs.Layout.{with_ip, with_sp, with_ssp}
use Rattle.processor.specs.Accesses.{ordinary}
use Rattle.answers.specs.Blame.{blame}
use Rattle.processor.specs.Outcomes.{completed, faulted, step_of}
use Rattle.processor.specs.Prog.{done, ◌>>=◌, ◌>>◌, store, only_if, interp, operate}
use Rattle.processor.specs.declared.state.State.{State}
use Rattle.processor.proofs.Laws.{passed, halted, put_all, all_stored, none_stored, completes, faults}
use Rattle.targets.specs.Targets.{in_code, pushed, runs_past}
use Rattle.call.specs.Call.{pushes_frame, call}
use Rattle.call.specs.Frame.{frame_of}
use Rattle.call.specs.declared.Frame.{Frame}

-- SP after the push
abbrev pub new_sp : State → ℕ
new_sp s = minus s s.sp (byte_count (pushed s))

-- the push on the ordinary stack
abbrev pub push : ℕ → State → Store
push span s = record { access = ordinary s (new_sp s) (pushed s) true; value = next s span }

-- the pushes as the code has them, on the ordinary stack and for the frame if there is one, and SSP after them
abbrev pub pushes : ℕ → State → Option Frame → List Store
pushes span s None = push span s ∷ []
pushes span s (Some frame) = push span s ∷ frame.store ∷ []

abbrev pub left_ssp : State → Option Frame → ℕ
left_ssp s None = s.ssp
left_ssp s (Some frame) = frame.ssp

-- the state after the call
abbrev pub called : ℕ → State → Option Frame → State
called target s frame = with_ip (with_ssp (with_sp s (new_sp s)) (left_ssp s frame)) target

-- a store and a conditional one, as a list
as_list : (look : Lookup) (bytes : List ℕ) (target span : ℕ) (s : State) (t : Bool) (f : Frame)
    → interp look (store (push span s).access (push span s).value >> (only_if t (store f.store.access f.store.value) >> done (with_ip (with_ssp (with_sp s (new_sp s)) (cond t f.ssp s.ssp)) target))) bytes
    ≡ interp look (put_all (pushes span s (cond t (Some f) None)) >> done (called target s (cond t (Some f) None))) bytes
unfolding ◌>>=◌ put_all
as_list look bytes target span s true f = refl
as_list look bytes target span s false f = refl

module _ (look : Lookup) (bytes : List ℕ) (target : ℕ) (framed : Bool) (span : ℕ) (s : State) where
  pub outside : in_code s target ≡ false → operate look (call target framed span s) s bytes ≡ step_of (faulted s gp) bytes
  unfolding call
  outside e = faults look _ s bytes gp (halted look bytes (in_code s target) gp _ e)

  module _ (inside : in_code s target ≡ true) where
    pub stack_end : runs_past s (new_sp s) ≡ true → operate look (call target framed span s) s bytes ≡ step_of (faulted s ss) bytes
    unfolding call
    stack_end e = faults look _ s bytes ss (passed look bytes (in_code s target) gp _ inside ∙ halted look bytes (not (runs_past s (new_sp s))) ss _ (ap not e))

    module _ (fits : runs_past s (new_sp s) ≡ false) (frame : Option Frame) (framed_as : frame_of s framed (next s span) ≡ frame) where
      past_tests : interp look (call target framed span s) bytes ≡ interp look (put_all (pushes span s frame) >> done (called target s frame)) bytes
      unfolding call frame_of
      past_tests =
          passed look bytes (in_code s target) gp _ inside
          ∙ passed look bytes (not (runs_past s (new_sp s))) ss _ (ap not fits)
          ∙ as_list look bytes target span s (pushes_frame s framed) _
          ∙ ap (λ (f : Option Frame). interp look (put_all (pushes span s f) >> done (called target s f)) bytes) framed_as

      pub not_pushed : (b : Blocked) → try_all look (pushes span s frame) ≡ Err b
          → operate look (call target framed span s) s bytes ≡ step_of (faulted s (blame b.access b.failure)) bytes
      not_pushed b e = faults look _ s bytes _ (past_tests ∙ none_stored look (done (called target s frame)) (pushes span s frame) bytes b e)

      pub pushed_all : try_all look (pushes span s frame) ≡ Ok tt
          → operate look (call target framed span s) s bytes
          ≡ step_of (completed (with_ssp (with_sp s (new_sp s)) (left_ssp s frame)) target) (written_all look (pushes span s frame) bytes)
      unfolding interp
      pushed_all e = completes look _ s bytes _ _ (past_tests ∙ all_stored look (done (called target s frame)) (pushes span s frame) bytes e)
