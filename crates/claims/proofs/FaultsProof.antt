-- The numbers of a fault: whatever fault a run ends in, its error code and its address are those of its vector and of the instruction
-- that it ended at. Assumes nothing.
use Rattle.std.proofs.Common.{◌≡◌, ℕ, Bool, false, cond, eqb, List, Some, Ok, Err, Result, sym, refl, ap, ◌∙◌, ⊎_elim, arith, ne_eqb}
use Rattle.pages.specs.Pages.{Lookup}
use Rattle.accesses.specs.declared.access.Access.{Access}
use Rattle.accesses.specs.declared.reach.Failure.{Failure}
use Rattle.accesses.specs.declared.reach.Failure.TheVariants.{NotCanonical, NotListed, WrongKind}
use Rattle.accesses.specs.declared.access.Kind.{Kind}
use Rattle.accesses.specs.declared.access.Kind.TheVariants.{UserShadow, SupervisorShadow, Ordinary}
use Rattle.answers.specs.Blame.{not_canonical, blame}
use Rattle.answers.specs.Answer.{vector_number, plain_fault, ud, ss, gp, page_fault, cp_near_ret, cp_rstorssp}
use Rattle.processor.specs.Prog.{Step}
use Rattle.answers.specs.declared.answer.Fault.{Fault}
use Rattle.answers.specs.declared.answer.Vector.{Vector}
use Rattle.answers.specs.declared.answer.Vector.TheVariants.{InvalidOpcode, Stack, Protection}
use Rattle.answers.specs.declared.answer.Refusal.{Refusal}
use Rattle.processor.specs.declared.state.State.{State}
use Rattle.instructions.specs.Operation.{decoded}
use Rattle.instructions.specs.Permission.{hidden}
use Rattle.replay.specs.Run.{look_of, listed, check, Run, after_from, after, built, replayed}
use Rattle.instructions.specs.declared.instruction.Instruction.{Instruction}
use Rattle.instructions.specs.declared.operation.Operation.{Operation}
use Rattle.instructions.specs.declared.operation.Operation.TheVariants.{Incssp, Rstorssp, Saveprevssp, Wrss, Call, Ret, Wruss}
use Rattle.instructions.specs.declared.operation.Release.{Release}
use Rattle.claims.specs.Faults.{control_code, Numbered, FaultNumbers}
use Rattle.claims.proofs.Counts.{faulted_stops, refused_no_fault}
use Rattle.claims.proofs.EndsProof.{refused_before, count_tied}
use Rattle.claims.proofs.InstructionWalk.{rule_of, shown_rule, breaks_at}
use Rattle.claims.proofs.Walks.{Breaks, at_stop, at_load, at_store}

-- ---- the faults of the rules

module _ (op : Operation) where
  -- error code 0 and no address, if it is not #CP
  no_code : (vector : Vector) → (vector_number vector ≡ 21 → ⊥) → Numbered op (plain_fault vector)
  no_code vector other =
      let not_cp : eqb (vector_number vector) 21 ≡ false = ne_eqb _ _ other in
      record { code = sym (ap (λ (t : Bool). cond t (control_code op) 0) not_cp); control = λ e. absurd (other e); address = λ e. refl }

  of_ud : Numbered op ud
  of_ud = no_code InvalidOpcode (λ e. omega arith)

  of_ss : Numbered op ss
  of_ss = no_code Stack (λ e. omega arith)

  of_gp : Numbered op gp
  of_gp = no_code Protection (λ e. omega arith)

  -- an access that cannot be done
  of_page : (address : ℕ) → Numbered op (page_fault address)
  of_page address = record { code = refl; control = λ e. absurd (omega arith); address = λ other. absurd (other refl) }

  not_canonical_lem : (kind : Kind) → Numbered op (not_canonical kind)
  not_canonical_lem UserShadow = of_gp
  not_canonical_lem SupervisorShadow = of_gp
  not_canonical_lem Ordinary = of_ss

  blamed : (a : Access) (failure : Failure) → Numbered op (blame a failure)
  blamed a NotCanonical = not_canonical_lem a.kind
  blamed a (NotListed address) = of_page address
  blamed a (WrongKind address) = of_page address

of_rstorssp : Numbered Rstorssp cp_rstorssp
of_rstorssp = record { code = refl; control = λ e. omega arith; address = λ e. refl }

of_ret : (release : Release) → Numbered (Ret release) cp_near_ret
of_ret release = record { code = refl; control = λ e. omega arith; address = λ e. refl }

-- ---- what each operation stops with

module _ (look : Lookup) (bytes : List ℕ) where
  stops_numbered : (op : Operation) (i : Instruction) (s : State) (fault : Fault) → (rule_of look bytes op i s).stops fault → Numbered op fault
  stops_numbered (Incssp size) i s fault is = rw is (of_ud (Incssp size))
  stops_numbered Rstorssp i s fault is = ⊎_elim (λ e. rw e (of_ud Rstorssp)) (⊎_elim (λ e. rw e (of_gp Rstorssp)) (λ e. rw e of_rstorssp)) is
  stops_numbered Saveprevssp i s fault is = ⊎_elim (λ e. rw e (of_ud Saveprevssp)) (λ e. rw e (of_gp Saveprevssp)) is
  stops_numbered (Wrss size) i s fault is = ⊎_elim (λ e. rw e (of_ud (Wrss size))) (λ e. rw e (of_gp (Wrss size))) is
  stops_numbered (Call how) i s fault is = ⊎_elim (λ e. rw e (of_gp (Call how))) (λ e. rw e (of_ss (Call how))) is
  stops_numbered (Ret release) i s fault is =
      ⊎_elim (λ e. rw e (of_ss (Ret release))) (⊎_elim (λ e. rw e (of_gp (Ret release))) (λ e. rw e (of_ret release))) is
  stops_numbered (Wruss size) i s fault is = ⊎_elim (λ e. rw e (of_ud (Wruss size))) (λ e. rw e (of_gp (Wruss size))) is

  -- an instruction: a stop of its operation, or an access of it
  breaks_numbered : (op : Operation) (i : Instruction) (s : State) (fault : Fault) → decoded i.code ≡ Some op → Breaks (shown_rule look i s bytes) fault → Numbered op fault
  breaks_numbered op i s fault named (at_stop stops) = stops_numbered op i (hidden s) fault (rw named at stops)
  breaks_numbered op i s fault named (at_load a failure loads) = blamed op a failure
  breaks_numbered op i s fault named (at_store a v failure stores) = blamed op a failure

-- ---- a run ends in the fault of the single operation at its count

pub fault_numbers : FaultNumbers
unfolding after_from
fault_numbers given fault e = go (check given) refl
  where
    r : Run
    r = replayed given

    last : Step
    last = after (built given) given r.count

    at : Instruction
    at = listed given r.count

    go : (t : Result (Unit {0}) Refusal) → check given ≡ t → (op : Operation) × (decoded at.code ≡ Some op) × Numbered op fault
    go (Ok x) h =
        let there = (count_tied (built given) given h).at_stop (λ q. faulted_stops fault (sym e ∙ q)) in
        let both = breaks_at given (look_of given) at last.state last.bytes fault (there.1 ∙ e) in
        let of = both.0 in
        (of.op, of.named, breaks_numbered (look_of given) last.bytes of.op at last.state fault of.named both.1)
    go (Err refusal) h = absurd (refused_no_fault refusal fault (sym (ap (λ (q : Run). q.answer) (refused_before (built given) given refusal h)) ∙ e))
