-- One instruction with the permission bits switched on: no operation is shown them, so unless it was a WRSS that is not permitted it
-- does the same. Assumes nothing.
use Rattle.std.proofs.Common.{◌≡◌, ℕ, Bool, true, false, cond, not, ◌&&◌, List, sym, refl, ap, ◌∙◌, true≢false}
use mathlib.Core.Bool.{and-eq-true_iff}
use borrow.Author.Tests.{not-true, not-false}
use Rattle.pages.specs.Pages.{Lookup}
use Rattle.numbers.specs.declared.size.Size.{Size}
use Rattle.answers.specs.Answer.{ud}
use Rattle.processor.specs.State.{usable, permitted}
use Rattle.processor.specs.Prog.{Prog, done, stop, ◌>>=◌, Ending, ended, broken, interp, Step, settle, operate}
use Rattle.answers.specs.declared.answer.Answer.TheVariants.{Faulted}
use Rattle.answers.specs.declared.answer.Fault.{Fault}
use Rattle.answers.specs.declared.answer.Refusal.TheVariants.{Instruction as BadForm}
use Rattle.processor.specs.declared.state.State.{State}
use Rattle.processor.proofs.Laws.{continues, breaks, faults}
use Rattle.wrss.specs.Wrss.{wrss}
use Rattle.instructions.specs.Operation.{decoded, is_wrss, wrss_size}
use Rattle.instructions.specs.Permission.{hidden, shown}
use Rattle.perform.specs.Exec.{InstructionSet, operation_of, whole, exec, refused, perform}
use Rattle.replay.specs.Run.{ends_at}
use Rattle.instructions.specs.declared.instruction.Instruction.{Instruction}
use Rattle.claims.specs.MoreRights.{granted, is_ud, not_permitted}
use Rattle.claims.proofs.PermissionBits.{hidden_granted, shown_granted, still_permitted, usable_hidden}

-- the step with the bits switched on in the state that it leaves
abbrev pub on_step : Bool → Bool → Step → Step
on_step user supervisor now = record { answer = now.answer; state = granted user supervisor now.state; bytes = now.bytes }

-- ---- the program of an instruction

module _ (size : Size) (a b length : ℕ) (s : State) where
  -- WRSS gives #UD where it is not usable, permitted or not
  wrss_not_usable : (allowed : Bool) → usable s ≡ false → wrss size allowed a b length s ≡ stop ud
  unfolding wrss ◌>>=◌
  wrss_not_usable allowed u = rw u

  -- and where it is not permitted, usable or not
  wrss_not_permitted : (t : Bool) → usable s ≡ t → wrss size false a b length s ≡ stop ud
  unfolding wrss ◌>>=◌
  wrss_not_permitted true u = rw u
  wrss_not_permitted false u = rw u

-- the instruction is a WRSS that this state does not permit
abbrev denied : Instruction → State → Bool
denied i s = is_wrss (decoded i.code) && (usable s && not (permitted s))

module _ (set : InstructionSet) (i : Instruction) (s : State) where
  denied_program : denied i s ≡ true → operation_of set i (permitted s) (hidden s) ≡ stop ud
  unfolding operation_of
  denied_program e =
      let parts = (and-eq-true_iff (is_wrss (decoded i.code)) (usable s && not (permitted s))).0 e in
      let off = not-true (permitted s) ((and-eq-true_iff (usable s) (not (permitted s))).0 parts.1).1 in
      rw (parts.0, off) (wrss_not_permitted (wrss_size (decoded i.code)) i.a i.b i.length (hidden s) (usable (hidden s)) refl)

module _ (user supervisor : Bool) (s : State) where
  -- by whether it is usable: if so it was permitted and still is, if not both give #UD
  same_wrss : (size : Size) (a b length : ℕ) (t : Bool) → usable s ≡ t → t && not (permitted s) ≡ false
      → wrss size (permitted (granted user supervisor s)) a b length (hidden s) ≡ wrss size (permitted s) a b length (hidden s)
  same_wrss size a b length true u e =
      let p = not-false (permitted s) e in
      ap (λ (allowed : Bool). wrss size allowed a b length (hidden s)) (still_permitted user supervisor s p ∙ sym p)
  same_wrss size a b length false u e =
      let off = usable_hidden s ∙ u in
      wrss_not_usable size a b length (hidden s) (permitted (granted user supervisor s)) off ∙ sym (wrss_not_usable size a b length (hidden s) (permitted s) off)

  -- the program is the same, whatever else the instruction is
  same_program : (set : InstructionSet) (i : Instruction) → denied i s ≡ false
      → operation_of set i (permitted (granted user supervisor s)) (hidden s) ≡ operation_of set i (permitted s) (hidden s)
  unfolding operation_of
  same_program set i e = go (is_wrss (decoded i.code)) e
    where
      go : (t : Bool) → t && (usable s && not (permitted s)) ≡ false
          → cond t (wrss (wrss_size (decoded i.code)) (permitted (granted user supervisor s)) i.a i.b i.length (hidden s)) (set.operation i (hidden s))
          ≡ cond t (wrss (wrss_size (decoded i.code)) (permitted s) i.a i.b i.length (hidden s)) (set.operation i (hidden s))
      go true q = same_wrss (wrss_size (decoded i.code)) i.a i.b i.length (usable s) refl q
      go false q = refl

-- ---- what is handed back, with the bits put back

-- a program whose last state gets the permission bits of another
abbrev put_back : Prog State → State → Prog State
put_back p s = p >>= (λ t. done (shown s t))

-- one program, from either state
same_put_back : (user supervisor : Bool) (look : Lookup) (p : Prog State) (s : State) (bytes : List ℕ)
    → operate look (put_back p (granted user supervisor s)) (granted user supervisor s) bytes ≡ on_step user supervisor (operate look (put_back p s) s bytes)
unfolding operate interp
same_put_back user supervisor look p s bytes = go (interp look p bytes) refl
  where
    more : State
    more = granted user supervisor s

    back : State → State → Prog State
    back from t = done (shown from t)

    go : (r : Ending State) → interp look p bytes ≡ r
        → settle more bytes (interp look (p >>= back more) bytes) ≡ on_step user supervisor (settle s bytes (interp look (p >>= back s) bytes))
    go (ended t left) e = rw (continues look (back more) p bytes t left e, continues look (back s) p bytes t left e, shown_granted user supervisor s t)
    go (broken fault) e = rw (breaks look (back more) p bytes fault e, breaks look (back s) p bytes fault e)

-- ---- one instruction

module _ (set : InstructionSet) (look : Lookup) (i : Instruction) (s : State) (bytes : List ℕ) where
  -- what its program gives where it breaks off: the state with its bits, and the bytes
  broken_off : Fault → Step
  broken_off fault = record { answer = Faulted fault; state = s; bytes = bytes }

  exec_faults : (fault : Fault) → interp look (whole set i (permitted s) (hidden s)) bytes ≡ broken fault → operate look (exec set i s) s bytes ≡ broken_off fault
  unfolding exec broken_off
  exec_faults fault e =
      faults look (exec set i s) s bytes fault (breaks look (λ t. done (shown s t)) (whole set i (permitted s) (hidden s)) bytes fault e)

  -- by how what precedes it ends: that breaks off
  before_faults : (fault : Fault) → interp look (set.precedes i (hidden s)) bytes ≡ broken fault → operate look (exec set i s) s bytes ≡ broken_off fault
  unfolding whole
  before_faults fault e = exec_faults fault (breaks look (λ x. operation_of set i (permitted s) (hidden s)) (set.precedes i (hidden s)) bytes fault e)

  -- or the instruction is denied after it
  denied_faults : denied i s ≡ true → (x : Unit {0}) (left : List ℕ) → interp look (set.precedes i (hidden s)) bytes ≡ ended x left → operate look (exec set i s) s bytes ≡ broken_off ud
  unfolding whole interp
  denied_faults d x left e =
      exec_faults ud
      (continues look (λ x. operation_of set i (permitted s) (hidden s)) (set.precedes i (hidden s)) bytes x left e ∙ ap (λ (p : Prog State). interp look p left) (denied_program set i s d))

module _ (set : InstructionSet) (look : Lookup) (i : Instruction) (s : State) (bytes : List ℕ) (user supervisor : Bool) where
  abbrev more : State
  more = granted user supervisor s

  -- What precedes it sees the same, so a fault there is one in both. Past that a denied one tells by its answer, and any other is the
  -- same program.
  same_exec : (t : Bool) → denied i s ≡ t → is_ud (operate look (exec set i s) s bytes).answer && denied i (operate look (exec set i s) s bytes).state ≡ false
      → operate look (exec set i more) more bytes ≡ on_step user supervisor (operate look (exec set i s) s bytes)
  unfolding exec whole broken_off
  same_exec true d e = go (interp look (set.precedes i (hidden s)) bytes) refl
    where
      go : (r : Ending (Unit {0})) → interp look (set.precedes i (hidden s)) bytes ≡ r → operate look (exec set i more) more bytes ≡ on_step user supervisor (operate look (exec set i s) s bytes)
      go (ended x left) q = absurd (true≢false (sym d ∙ (rw (denied_faults set look i s bytes d x left q) at e)))
      go (broken fault) q =
          before_faults set look i more bytes fault (rw (hidden_granted user supervisor s) q) ∙ sym (ap (on_step user supervisor) (before_faults set look i s bytes fault q))
  same_exec false d e =
      rw (hidden_granted user supervisor s, same_program user supervisor s set i d) (same_put_back user supervisor look (whole set i (permitted s) (hidden s)) s bytes)

  -- the whole step, where a run that ended with it would not have ended because a WRSS was not permitted
  pub same_step : (k : ℕ) → not_permitted (ends_at k (perform set look i s bytes)) i ≡ false → perform set look i more bytes ≡ on_step user supervisor (perform set look i s bytes)
  unfolding perform not_permitted
  same_step k e = rw (hidden_granted user supervisor s) (go (set.fits i (hidden s)) e)
    where
      now : Bool → Step
      now t = cond t (operate look (exec set i s) s bytes) (refused BadForm s bytes)

      go : (t : Bool) → is_ud (now t).answer && denied i (now t).state ≡ false
          → cond t (operate look (exec set i more) more bytes) (refused BadForm more bytes) ≡ on_step user supervisor (now t)
      go true q = same_exec (denied i s) refl q
      go false q = refl
