-- A relative CALL with displacement 0 does not use the shadow stack. Assumes nothing.
use Rattle.std.proofs.Common.{◌≡◌, ℕ, Bool, true, false, cond, not, ◌&&◌, List, [], length, Ok, Err, Result, sym, refl, ap, ◌∙◌}
use mathlib.Core.Bool.{false≢true}
use lib.IntN.{ℤ, pos, negsuc}
use Rattle.accesses.specs.Access.{probe, written}
use Rattle.memory.specs.Extends.{cell}
use Rattle.pages.specs.Pages.{Lookup}
use Rattle.accesses.specs.declared.access.Access.{Access}
use Rattle.accesses.specs.declared.access.Kind.TheVariants.{Ordinary}
use Rattle.memory.proofs.Laws.{length_written, same_kind_probe, written_on_kind}
use Rattle.processor.specs.Accesses.{ordinary}
use Rattle.answers.specs.Answer.{ss, gp}
use Rattle.processor.specs.Layout.{with_ip, with_sp, with_ssp}
use Rattle.processor.specs.Prog.{Prog, done, stop, fetch, put, ◌>>=◌, ◌>>◌, store, unless, Ending, ended, broken, on_reach, interp, Step, settle, operate}
use Rattle.processor.specs.State.{enabled, permitted, plus, minus, next}
use Rattle.answers.specs.declared.answer.Answer.TheVariants.{Faulted}
use Rattle.answers.specs.declared.answer.Refusal.TheVariants.{Instruction as BadForm}
use Rattle.accesses.specs.declared.reach.Failure.{Failure}
use Rattle.processor.specs.declared.state.State.{State}
use Rattle.processor.proofs.Laws.{continues, breaks}
use Rattle.targets.specs.Targets.{displacement, moved, relative, displaced, in_code, pushed, runs_past}
use Rattle.call.specs.Call.{pushes_frame, call}
use Rattle.instructions.specs.Instruction.{well_formed}
use Rattle.instructions.specs.Permission.{hidden, shown}
use Rattle.perform.specs.Exec.{exec, refused, perform}
use Rattle.perform.specs.Codes.{target}
use Rattle.replay.specs.Run.{Input, built}
use Rattle.instructions.specs.declared.instruction.Instruction.{Instruction}
use Rattle.instructions.specs.declared.operation.Target.TheVariants.{Relative}
use Rattle.claims.specs.CallOfNext.{CallsNext, SameListed, SameOrdinary, SameCallOfNext, CallOfNextUntouched}
use Rattle.claims.proofs.CallWalk.{below_sp, Pushed, push, frame}
use Rattle.perform.proofs.ExecLaws.{built_whole}
use Rattle.claims.proofs.InstructionWalk.{its_rule, shown_rule, exec_walk, keeps_bytes}
use Rattle.claims.proofs.Walks.{Rule, Walks, Weaker, weaker_walks}

-- ---- what it loads and stores, by its walk

never_framed : (t : Bool) → (t && false) ≡ false
never_framed true = refl
never_framed false = refl

-- a call that makes no frame stores once, on the ordinary stack
only_push : (framed : Bool) (span : ℕ) (s : State) (a : Access) (v : ℕ) → framed ≡ false → Pushed framed span s a v → a ≡ ordinary s (below_sp s) (pushed s) true
unfolding pushes_frame
only_push framed span s a v off push = refl
only_push framed span s a v off (frame made) = absurd (false≢true (sym (never_framed (enabled s)) ∙ (rw off at made)))

-- and so one with displacement 0
not_displaced : (a : ℕ) → a ≡ 0 → displaced a ≡ false
unfolding displaced
not_displaced a e = rw e

-- no load, and stores on the ordinary stack only
abbrev ordinary_only : Rule State
ordinary_only = record { loads = λ a. ⊥; stops = λ fault. Unit {0}; stores = λ a v. a.kind ≡ Ordinary; ends = λ t. Unit {0} }

module _ (look : Lookup) (i : Instruction) (s : State) (bytes : List ℕ) (calls : CallsNext i) where
  loads_nothing : (a : Access) → (its_rule look i s bytes).loads a → ⊥
  loads_nothing a loads = rw calls.0 at loads

  stores_once : (a : Access) (v : ℕ) → (its_rule look i s bytes).stores a v → a ≡ ordinary (hidden s) (below_sp (hidden s)) (pushed (hidden s)) true
  stores_once a v stores =
      let pushes : Pushed (displaced i.a) i.length (hidden s) a v = rw calls.0 at stores in
      only_push (displaced i.a) i.length (hidden s) a v (not_displaced i.a calls.1) pushes

  on_ordinary : Weaker (shown_rule look i s bytes) ordinary_only
  on_ordinary = record { loads = loads_nothing; stops = λ fault stops. tt; stores = λ a v stores. ap (λ (b : Access). b.kind) (stores_once a v stores); ends = λ t ends. tt }

-- ---- such a program over two memories

-- a result without its bytes
abbrev bare : {A : Type 0} → Ending A → Ending A
bare (ended x left) = ended x []
bare (broken fault) = broken fault

module _ (look₁ look₂ : Lookup) (listed : SameListed look₁ look₂) (same : SameOrdinary look₁ look₂) where
  reach_alike : (a : Access) → a.kind ≡ Ordinary → (go₁ go₂ : Ending State) → bare go₁ ≡ bare go₂ → bare (on_reach a (probe look₁ a) go₁) ≡ bare (on_reach a (probe look₂ a) go₂)
  reach_alike a kind go₁ go₂ later = rw (← same_kind_probe look₁ look₂ a listed (rw kind same)) (by (probe look₁ a))
    where
      by : (r : Result (Unit {0}) Failure) → bare (on_reach a r go₁) ≡ bare (on_reach a r go₂)
      by (Ok x) = later
      by (Err failure) = refl

  program_alike : (p : Prog State) (bytes₁ bytes₂ : List ℕ) → Walks look₁ ordinary_only p bytes₁ → bare (interp look₁ p bytes₁) ≡ bare (interp look₂ p bytes₂)
  unfolding Walks interp
  program_alike (done t) bytes₁ bytes₂ walk = refl
  program_alike (stop fault) bytes₁ bytes₂ walk = refl
  program_alike (fetch a k) bytes₁ bytes₂ walk = absurd walk.0
  program_alike (put a v p) bytes₁ bytes₂ walk = reach_alike a walk.0 _ _ (program_alike p (written look₁ a v bytes₁) (written look₂ a v bytes₂) walk.1)

-- ---- from another SSP

-- two tests and one push
abbrev one_push : Bool → Bool → Access → ℕ → State → Prog State
one_push inside fits at v after = unless inside gp >> (unless fits ss >> (store at v >> done after))

-- a call that makes no frame
abbrev unframed : ℕ → ℕ → State → Prog State
unframed target span s =
    one_push (in_code s target) (not (runs_past s (below_sp s))) (ordinary s (below_sp s) (pushed s) true) (next s span) (with_ip (with_sp s (below_sp s)) target)

no_frame : (target span : ℕ) (s : State) → call target false span s ≡ unframed target span s
unfolding call pushes_frame ◌>>=◌
no_frame target span s = rw (never_framed (enabled s))

-- what the instruction does, once its target is known
abbrev plain : ℕ → ℕ → State → Prog State
plain target span s = unframed target span (hidden s) >>= (λ t. done (shown s t))

is_plain : (given : Input) (i : Instruction) (s : State) → CallsNext i → exec (built given) i s ≡ plain (target Relative i (hidden s)) i.length s
unfolding exec
is_plain given i s calls =
    rw (built_whole i (permitted s) (hidden s), calls.0, not_displaced i.a calls.1)
    (ap (λ (p : Prog State). p >>= (λ t. done (shown s t))) (no_frame _ i.length (hidden s)))

-- its target does not depend on SSP
target_alike : (i : Instruction) (s : State) (ssp : ℕ) → target Relative i (hidden (with_ssp s ssp)) ≡ target Relative i (hidden s)
unfolding relative next plus minus hidden
target_alike i s ssp = by (displacement i.a)
  where
    by : (z : ℤ) → moved (hidden (with_ssp s ssp)) (next (hidden s) i.length) z ≡ moved (hidden s) (next (hidden s) i.length) z
    by (pos d) = refl
    by (negsuc d) = refl

-- the state that a program ends with, with another SSP
abbrev at_ssp : ℕ → Prog State → Prog State
at_ssp ssp p = p >>= (λ t. done (with_ssp t ssp))

plain_alike : (target span : ℕ) (s : State) (ssp : ℕ) → plain target span (with_ssp s ssp) ≡ at_ssp ssp (plain target span s)
unfolding ◌>>=◌ hidden shown next plus minus in_code runs_past
plain_alike target span s ssp = go (in_code (hidden s) target) (not (runs_past (hidden s) (below_sp (hidden s))))
  where
    by_tests : Bool → Bool → State → Prog State
    by_tests inside fits from =
        let at : Access = ordinary (hidden s) (below_sp (hidden s)) (pushed (hidden s)) true in
        one_push inside fits at (next (hidden s) span) (with_ip (with_sp (hidden from) (below_sp (hidden s))) target) >>= (λ t. done (shown from t))

    go : (inside fits : Bool) → by_tests inside fits (with_ssp s ssp) ≡ at_ssp ssp (by_tests inside fits s)
    go true true = refl
    go true false = refl
    go false fits = refl

other_ssp : (given : Input) (i : Instruction) (s : State) (ssp : ℕ) → CallsNext i → exec (built given) i (with_ssp s ssp) ≡ at_ssp ssp (exec (built given) i s)
other_ssp given i s ssp calls =
    is_plain given i (with_ssp s ssp) calls
    ∙ ap (λ (to : ℕ). plain to i.length (with_ssp s ssp)) (target_alike i s ssp)
    ∙ plain_alike (target Relative i (hidden s)) i.length s ssp
    ∙ ap (at_ssp ssp) (sym (is_plain given i s calls))

-- ---- the answer and the registers

-- how a program with another SSP at its end ends
moved_end : ℕ → Ending State → Ending State
moved_end ssp (ended t left) = ended (with_ssp t ssp) left
moved_end ssp (broken fault) = broken fault

at_ssp_lem : (look : Lookup) (p : Prog State) (bytes : List ℕ) (ssp : ℕ) → interp look (at_ssp ssp p) bytes ≡ moved_end ssp (interp look p bytes)
unfolding interp moved_end
at_ssp_lem look p bytes ssp = go (interp look p bytes) refl
  where
    go : (r : Ending State) → interp look p bytes ≡ r → interp look (at_ssp ssp p) bytes ≡ moved_end ssp r
    go (ended t left) e = continues look (λ t. done (with_ssp t ssp)) p bytes t left e
    go (broken fault) e = breaks look (λ t. done (with_ssp t ssp)) p bytes fault e

-- the same answer, and the same registers but for SSP
abbrev Alike : ℕ → Step → Step → Type 0
Alike ssp r₁ r₂ = (r₂.answer ≡ r₁.answer) × (r₂.state ≡ with_ssp r₁.state ssp)

settled_alike : (s : State) (bytes₁ bytes₂ : List ℕ) (ssp : ℕ) (r₁ r₂ : Ending State) → bare r₁ ≡ bare r₂ → Alike ssp (settle s bytes₁ r₁) (settle (with_ssp s ssp) bytes₂ (moved_end ssp r₂))
unfolding moved_end
settled_alike s bytes₁ bytes₂ ssp (ended t left) (ended u other) e = let same : u ≡ t = cc in (refl, ap (λ (last : State). with_ssp last ssp) same)
settled_alike s bytes₁ bytes₂ ssp (ended t left) (broken fault) e = absurd cc
settled_alike s bytes₁ bytes₂ ssp (broken fault) (ended t left) e = absurd cc
settled_alike s bytes₁ bytes₂ ssp (broken fault) (broken other) e = let same : other ≡ fault = cc in (ap Faulted same, refl)

pub same_call_of_next : SameCallOfNext
unfolding perform operate hidden
same_call_of_next given look₁ look₂ listed same i s bytes₁ bytes₂ ssp calls = rw (other_ssp given i s ssp calls) (go (well_formed i s.mode))
  where
    p : Prog State
    p = exec (built given) i s

    walk : Walks look₁ ordinary_only p bytes₁
    walk = weaker_walks look₁ (shown_rule look₁ i s bytes₁) ordinary_only (on_ordinary look₁ i s bytes₁ calls) p bytes₁ (exec_walk given look₁ i s bytes₁)

    steps_alike : Alike ssp (settle s bytes₁ (interp look₁ p bytes₁)) (settle (with_ssp s ssp) bytes₂ (interp look₂ (at_ssp ssp p) bytes₂))
    steps_alike =
        rw (at_ssp_lem look₂ p bytes₂ ssp)
        (settled_alike s bytes₁ bytes₂ ssp (interp look₁ p bytes₁) (interp look₂ p bytes₂) (program_alike look₁ look₂ listed same p bytes₁ bytes₂ walk))

    one : Lookup → Prog State → State → List ℕ → Bool → Step
    one look does from bytes t = cond t (settle from bytes (interp look does bytes)) (refused BadForm from bytes)

    go : (t : Bool) → Alike ssp (one look₁ p s bytes₁ t) (one look₂ (at_ssp ssp p) (with_ssp s ssp) bytes₂ t)
    go true = steps_alike
    go false = (refl, refl)

-- ---- the bytes

pub call_of_next_untouched : CallOfNextUntouched
call_of_next_untouched given look i s bytes places calls address off = (keeps_bytes given look i s bytes Kept kept (refl, refl)).1
  where
    Kept : List ℕ → Type 0
    Kept left = (length left ≡ length bytes) × (cell look left address ≡ cell look bytes address)

    kept : (a : Access) (v : ℕ) (left : List ℕ) → (its_rule look i s bytes).stores a v → probe look a ≡ Ok tt → Kept left → Kept (written look a v left)
    kept a v left stores ready now =
        let at : a ≡ ordinary (hidden s) (below_sp (hidden s)) (pushed (hidden s)) true = stores_once look i s bytes calls a v stores in (
          length_written look a v left ∙ now.0,
          rw at (written_on_kind look left (rw now.0 places) (ordinary (hidden s) (below_sp (hidden s)) (pushed (hidden s)) true) v address (rw at at ready) off ∙ now.1),
        )
