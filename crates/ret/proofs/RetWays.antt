-- The ways through RET, each by the tests and the loads on it. Assumes nothing.
use Prim.Native.Nat.{ℕ}
use mathlib.Core.Path.{◌≡◌, ◌∙◌}
use mathlib.Core.Bool.{true, false, not}
use mathlib.Core.List.{List}
use Rattle.std.proofs.Common.{Result, Ok, Err}
use lib.Dec.{eqb}
use borrow.Author.Tests.{eq-eqb, ne_eqb}
use Rattle.numbers.specs.Numbers.{byte_count}
use Rattle.accesses.specs.Access.{load as load_at}
use Rattle.pages.specs.Pages.{Lookup}
use Rattle.memory.specs.Blocked.{against}
use Rattle.memory.specs.declared.blocked.Blocked.{Blocked}
use Rattle.answers.specs.Answer.{ss, gp, cp_near_ret}
use Rattle.processor.specs.State.{enabled, plus}
use Rattle.processor.specs.Layout.{with_ip, with_sp, with_ssp}
use Rattle.processor.specs.Accesses.{shadow, ordinary}
use Rattle.answers.specs.Blame.{blame}
use Rattle.processor.specs.Outcomes.{completed, faulted, step_of}
use Rattle.processor.specs.Prog.{Prog, done, ◌>>=◌, ◌>>◌, unless, ended, broken, interp, operate}
use Rattle.answers.specs.declared.answer.Fault.{Fault}
use Rattle.processor.specs.declared.state.State.{State}
use Rattle.processor.proofs.Laws.{passed, halted, loaded, not_loaded, continues, breaks, completes, faults}
use Rattle.targets.specs.Targets.{in_code, pushed, runs_past}
use Rattle.ret.specs.Ret.{pop_frame, new_ssp, ret}

-- ---- the shadow stack

module _ (look : Lookup) (bytes : List ℕ) (s : State) (target : ℕ) where
  pub not_asked : enabled s ≡ false → interp look (new_ssp s target) bytes ≡ ended s.ssp bytes
  unfolding new_ssp interp
  not_asked e = rw e

  module _ (on : enabled s ≡ true) where
    pub frame_blocked : (b : Blocked) → against (shadow s s.ssp (pushed s) false) (load_at look bytes (shadow s s.ssp (pushed s) false)) ≡ Err b
        → interp look (new_ssp s target) bytes ≡ broken (blame b.access b.failure)
    unfolding new_ssp pop_frame
    frame_blocked b e = rw on (not_loaded look bytes (shadow s s.ssp (pushed s) false) _ b e)

    module _ (frame : ℕ) (e : against (shadow s s.ssp (pushed s) false) (load_at look bytes (shadow s s.ssp (pushed s) false)) ≡ Ok frame) where
      pub frame_differs : (frame ≡ target → ⊥) → interp look (new_ssp s target) bytes ≡ broken cp_near_ret
      unfolding new_ssp pop_frame
      frame_differs other = rw on (loaded look bytes (shadow s s.ssp (pushed s) false) _ frame e ∙ halted look bytes (eqb frame target) cp_near_ret _ (ne_eqb _ _ other))

      pub frame_popped : frame ≡ target → interp look (new_ssp s target) bytes ≡ ended (plus s s.ssp (byte_count (pushed s))) bytes
      unfolding new_ssp pop_frame interp
      frame_popped same = rw on (loaded look bytes (shadow s s.ssp (pushed s) false) _ frame e ∙ passed look bytes (eqb frame target) cp_near_ret _ (eq-eqb _ _ same))

-- ---- the whole

-- the last steps: the target's test, and the state that is left
abbrev landing : ℕ → State → ℕ → ℕ → Prog State
landing count s target ssp = unless (in_code s target) gp >> done (with_ip (with_ssp (with_sp s (plus s (plus s s.sp (byte_count (pushed s))) count)) ssp) target)

module _ (look : Lookup) (bytes : List ℕ) (count : ℕ) (s : State) where
  pub stack_end : runs_past s s.sp ≡ true → operate look (ret count s) s bytes ≡ step_of (faulted s ss) bytes
  unfolding ret
  stack_end e = faults look _ s bytes ss (halted look bytes (not (runs_past s s.sp)) ss _ (rw e))

  module _ (inside : runs_past s s.sp ≡ false) where
    pub pop_blocked : (b : Blocked) → against (ordinary s s.sp (pushed s) false) (load_at look bytes (ordinary s s.sp (pushed s) false)) ≡ Err b
        → operate look (ret count s) s bytes ≡ step_of (faulted s (blame b.access b.failure)) bytes
    unfolding ret
    pop_blocked b e =
        faults look _ s bytes _ (passed look bytes (not (runs_past s s.sp)) ss _ (rw inside) ∙ not_loaded look bytes (ordinary s s.sp (pushed s) false) _ b e)

    module _ (target : ℕ) (popped : against (ordinary s s.sp (pushed s) false) (load_at look bytes (ordinary s s.sp (pushed s) false)) ≡ Ok target) where
      -- past the ordinary pop
      past_pop : interp look (ret count s) bytes ≡ interp look (new_ssp s target >>= landing count s target) bytes
      unfolding ret
      past_pop = passed look bytes (not (runs_past s s.sp)) ss _ (rw inside) ∙ loaded look bytes (ordinary s s.sp (pushed s) false) _ target popped

      pub frame_failed : (fault : Fault) → interp look (new_ssp s target) bytes ≡ broken fault → operate look (ret count s) s bytes ≡ step_of (faulted s fault) bytes
      frame_failed fault e = faults look _ s bytes fault (past_pop ∙ breaks look _ (new_ssp s target) bytes fault e)

      module _ (ssp : ℕ) (framed : interp look (new_ssp s target) bytes ≡ ended ssp bytes) where
        -- past the shadow pop
        past_frame_lem : interp look (ret count s) bytes ≡ interp look (landing count s target ssp) bytes
        past_frame_lem = past_pop ∙ continues look _ (new_ssp s target) bytes ssp bytes framed

        pub outside : in_code s target ≡ false → operate look (ret count s) s bytes ≡ step_of (faulted s gp) bytes
        outside e = faults look _ s bytes gp (past_frame_lem ∙ halted look bytes (in_code s target) gp _ e)

        pub returned : in_code s target ≡ true
            → operate look (ret count s) s bytes ≡ step_of (completed (with_ssp (with_sp s (plus s (plus s s.sp (byte_count (pushed s))) count)) ssp) target) bytes
        unfolding interp
        returned e = completes look _ s bytes _ bytes (past_frame_lem ∙ passed look bytes (in_code s target) gp _ e)
