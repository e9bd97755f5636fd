-- The ledger of the shadow stack pointer: each operation's turn of it, and the turns of a run added up. Assumes nothing.
use Rattle.std.proofs.Common.{◌≡◌, ℕ, zero, suc, ◌+◌, ◌%◌, ◌^◌, ◌<◌, ◌≤◌, Bool, true, false, cond, not, ◌&&◌, eqb, ltb, List, Some, sym, refl, ap, ◌∙◌, subst, arith, ltb-true}
use Rattle.numbers.specs.Numbers.{byte_count}
use Rattle.addresses.specs.Address.{wrapped}
use Rattle.addresses.specs.declared.address.Width.{Width}
use Rattle.addresses.specs.declared.address.Width.TheVariants.{Bits32, Bits64}
use Rattle.addresses.proofs.Laws.{plus_back, plus_twice, minus_back, moves_add}
use Rattle.pages.specs.Pages.{Lookup}
use Rattle.processor.specs.State.{width_of, enabled, plus, minus}
use Rattle.answers.specs.declared.answer.Answer.TheVariants.{Completed}
use Rattle.processor.specs.declared.state.State.{State}
use Rattle.saveprevssp.specs.Saveprevssp.{carry}
use Rattle.targets.specs.Targets.{pushed, displaced}
use Rattle.call.specs.Call.{pushes_frame}
use Rattle.instructions.specs.Operation.{decoded}
use Rattle.instructions.specs.Instruction.{words_fit, fits}
use Rattle.instructions.specs.Permission.{hidden, shown}
use Rattle.perform.specs.Exec.{perform}
use Rattle.replay.specs.Run.{Input, look_of, listed, after_from, after, built, replayed}
use Rattle.instructions.specs.declared.instruction.Instruction.{Instruction}
use Rattle.instructions.specs.declared.operation.Operation.{Operation}
use Rattle.instructions.specs.declared.operation.Operation.TheVariants.{Incssp, Rstorssp, Saveprevssp, Wrss, Call, Ret, Wruss}
use Rattle.instructions.specs.declared.operation.Target.TheVariants.{Relative, Absolute}
use Rattle.claims.specs.Ledger.{frame_bytes, popped, pushed_by, counted, sum_of, OneMode, LedgerInOneMode, KeepsOneMode, Ledger}
use Rattle.claims.proofs.CallWalk.{below_ssp}
use Rattle.claims.proofs.RetWalk.{past_frame}
use Rattle.claims.proofs.SaveprevsspWalk.{past_token}
use Rattle.claims.proofs.InstructionWalk.{rule_of, completes_at}
use Rattle.claims.proofs.KeptAlong.{done_below, kept_after, run_keeps}
use Rattle.claims.proofs.PermissionBits.{enabled_hidden}
use Rattle.claims.proofs.RangeParts.{both}

-- ---- one operation: the old SSP and what is popped, the new SSP and what is pushed

abbrev Even : State → ℕ → ℕ → ℕ → Type 0
Even s up new down = wrapped (width_of s) (s.ssp + up) ≡ wrapped (width_of s) (new + down)

-- SAVEPREVSSP
past_turn : (s : State) → Even s (cond (carry s) 12 8) (past_token s) 0
unfolding plus
past_turn s = go (carry s)
  where
    go : (t : Bool) → Even s (cond t 12 8) (cond t (plus s (plus s s.ssp 8) 4) (plus s s.ssp 8)) 0
    go true = plus_twice (width_of s) s.ssp 8 4
    go false = plus_back (width_of s) s.ssp 8

-- CALL, by whether its form makes a frame
below_turn : (s : State) (framed : Bool) → Even s 0 (below_ssp s framed) (cond framed (frame_bytes s) 0)
unfolding minus frame_bytes pushes_frame
below_turn s = go (enabled s)
  where
    go : (t framed : Bool) → Even s 0 (cond (t && framed) (minus s s.ssp (byte_count (pushed s))) s.ssp) (cond framed (cond t (byte_count (pushed s)) 0) 0)
    go true true = minus_back (width_of s) s.ssp (byte_count (pushed s))
    go true false = refl
    go false true = refl
    go false false = refl

-- the displacement of a well-formed relative one is all of A
by_words : (a frame : ℕ) → a < 2 ^ 32 → cond (displaced a) frame 0 ≡ cond (eqb a 0) 0 frame
unfolding displaced
by_words a frame small =
    let all : a % 2 ^ 32 ≡ a = omega arith in
    rw all (go (eqb a 0))
  where
    go : (t : Bool) → cond (not t) frame 0 ≡ cond t 0 frame
    go true = refl
    go false = refl

-- RET
frame_turn : (s : State) → Even s (frame_bytes s) (past_frame s) 0
unfolding plus frame_bytes
frame_turn s = go (enabled s)
  where
    go : (t : Bool) → Even s (cond t (byte_count (pushed s)) 0) (cond t (plus s s.ssp (byte_count (pushed s))) s.ssp) 0
    go true = plus_back (width_of s) s.ssp (byte_count (pushed s))
    go false = refl

-- where an operation ends: unless it is RSTORSSP, and if the mode has stayed
abbrev Turn : Operation → Instruction → State → State → Type 0
Turn op i s t = (op ≡ Rstorssp → ⊥) → t.mode ≡ s.mode → Even s (popped op i s) t.ssp (pushed_by op i s)

module _ (look : Lookup) (bytes : List ℕ) where
  turn : (op : Operation) (i : Instruction) (s t : State) → fits op i s.mode ≡ true → (rule_of look bytes op i s).ends t → Turn op i s t
  unfolding fits plus
  turn (Incssp size) i s t form is other same = rw is (plus_back (width_of s) s.ssp _)
  turn Rstorssp i s t form end other same = absurd (other refl)
  turn Saveprevssp i s t form is other same = rw is (past_turn s)
  turn (Wrss size) i s t form is other same = rw is
  turn (Call Relative) i s t form end other same =
      let small : i.a < 2 ^ 32 = ltb-true _ _ (both (ltb i.a (2 ^ 32)) _ (both (words_fit (Call Relative) i) _ form).0).0 in
      rw end.1
      (below_turn s (displaced i.a) ∙ ap (λ (down : ℕ). wrapped (width_of s) (below_ssp s (displaced i.a) + down)) (by_words i.a (frame_bytes s) small))
  turn (Call Absolute) i s t form end other same = rw end.1 (below_turn s true)
  turn (Ret release) i s t form end other same = rw end.1 (frame_turn s)
  turn (Wruss size) i s t form is other same = rw is

  same_mode : (op : Operation) (i : Instruction) (s t : State) → (rule_of look bytes op i s).ends t → t.mode ≡ s.mode
  same_mode (Incssp size) i s t is = rw is
  same_mode Rstorssp i s t end = rw end.state
  same_mode Saveprevssp i s t is = rw is
  same_mode (Wrss size) i s t is = rw is
  same_mode (Call how) i s t end = rw end.1
  same_mode (Ret release) i s t end = rw end.1
  same_mode (Wruss size) i s t is = rw is

-- ---- an instruction: the permission bits play no part

frame_hidden : (s : State) → frame_bytes (hidden s) ≡ frame_bytes s
unfolding frame_bytes hidden
frame_hidden s = rw (← enabled_hidden s)

popped_hidden : (op : Operation) (i : Instruction) (s : State) → popped op i (hidden s) ≡ popped op i s
unfolding hidden
popped_hidden (Ret release) i s = rw (← frame_hidden s)
popped_hidden other i s = refl

pushed_hidden : (op : Operation) (i : Instruction) (s : State) → pushed_by op i (hidden s) ≡ pushed_by op i s
pushed_hidden (Call Relative) i s = rw (← frame_hidden s)
pushed_hidden (Call Absolute) i s = rw (← frame_hidden s)
pushed_hidden other i s = refl

module _ (given : Input) (look : Lookup) (i : Instruction) (s : State) (bytes : List ℕ) (done : (perform (built given) look i s bytes).answer ≡ Completed) where
  abbrev last : State
  last = (perform (built given) look i s bytes).state

  its_turn : (decoded i.code ≡ Some Rstorssp → ⊥) → last.mode ≡ s.mode
      → Even s (counted popped (decoded i.code) i s) last.ssp (counted pushed_by (decoded i.code) i s)
  unfolding hidden shown
  its_turn other same =
      let it = completes_at given look i s bytes done in
      let op : Operation = it.of.op in
      let mode : it.end.mode ≡ s.mode = rw it.bits_back at same in
      let even = turn look bytes op i (hidden s) it.end it.of.form it.ends (λ e. other (it.of.named ∙ ap Some e)) mode in
      rw (it.of.named, it.bits_back) (rw (popped_hidden op i s, pushed_hidden op i s) at even)

  mode_stays : last.mode ≡ s.mode
  unfolding hidden shown
  mode_stays =
      let it = completes_at given look i s bytes done in
      rw it.bits_back (same_mode look bytes it.of.op i (hidden s) it.end it.ends)

-- ---- whole runs

same_width : (s t : State) → t.mode ≡ s.mode → width_of t ≡ width_of s
same_width s t e = ap (λ (mode : ℕ). cond (eqb mode 2) Bits64 Bits32) e

module _ (given : Input) where
  abbrev opening : ℕ → State
  opening j = (after (built given) given j).state

  abbrev start : State
  start = given.state

  -- the ledger of the first j instructions, from the start to t
  abbrev EvenAfter : ℕ → State → Type 0
  EvenAfter j t = Even start (sum_of popped (listed given) opening j) t.ssp (sum_of pushed_by (listed given) opening j)

  -- the mode is that of the start, in each opening state
  opening_mode : OneMode given → (j : ℕ) → j ≤ (replayed given).count → (opening j).mode ≡ start.mode
  unfolding after_from
  opening_mode one zero h = refl
  opening_mode one (suc j) h = one j (omega arith)

  -- what the j-th instruction counts for
  abbrev up : ℕ → ℕ
  up j = counted popped (decoded (listed given j).code) (listed given j) (opening j)

  abbrev down : ℕ → ℕ
  down j = counted pushed_by (decoded (listed given j).code) (listed given j) (opening j)

  one_more : (j : ℕ) (t : State) → (opening j).mode ≡ start.mode → EvenAfter j (opening j) → Even (opening j) (up j) t.ssp (down j) → EvenAfter (suc j) t
  unfolding sum_of
  one_more j t mode before now =
      moves_add (width_of start) start.ssp (opening j).ssp t.ssp _ _ (up j) (down j) before
      (subst (λ (w : Width). wrapped w ((opening j).ssp + up j) ≡ wrapped w (t.ssp + down j)) (same_width start (opening j) mode) now)

pub ledger_in_one_mode : LedgerInOneMode
unfolding after_from sum_of
ledger_in_one_mode given one other =
    run_keeps (built given) given (EvenAfter given) refl
    (λ j below before done.
    let mode : (opening given j).mode ≡ given.state.mode = opening_mode given one j (omega arith) in
    let same : (opening given (suc j)).mode ≡ (opening given j).mode = one j below ∙ sym mode in
    one_more given j (opening given (suc j)) mode before (its_turn given (look_of given) (listed given j) (opening given j) _ done (other j below) same))

-- today no instruction changes the mode
pub keeps_one_mode : KeepsOneMode
unfolding after_from
keeps_one_mode given j in_run =
    kept_after (built given) given (λ k t. t.mode ≡ given.state.mode) (suc j) refl
    (λ k below before done. mode_stays given (look_of given) (listed given k) _ _ done ∙ before)
    (λ k below. done_below (built given) given k (omega arith))

pub ledger : Ledger
ledger given = ledger_in_one_mode given (keeps_one_mode given)
