-- An instruction walked: its operation's rule, by the state that operations see, and then the permission bits put back. What a claim
-- needs of a single operation is read off here. Assumes nothing.
--
--     rule_of                      the rule of each operation
--     completes_at, breaks_at     a single operation that completes ends as its rule says, and a fault is one of the rule's; in either case
--                                 its code names an operation whose form it has
--     keeps_bytes                 what every store of the rule keeps, the bytes that are left have
use Rattle.std.proofs.Common.{◌≡◌, ℕ, Bool, true, false, cond, List, Some, None, Ok, Option, sym, refl, subst}
use mathlib.Core.Bool.{false≢true}
use Rattle.accesses.specs.Access.{probe, written}
use Rattle.pages.specs.Pages.{Lookup}
use Rattle.accesses.specs.declared.access.Access.{Access}
use Rattle.answers.specs.Answer.{ud}
use Rattle.processor.specs.State.{permitted}
use Rattle.processor.specs.Prog.{◌>>=◌, Ending, ended, broken, interp, Step, settle, operate}
use Rattle.answers.specs.declared.answer.Answer.TheVariants.{Completed, Faulted}
use Rattle.answers.specs.declared.answer.Fault.{Fault}
use Rattle.answers.specs.declared.answer.Refusal.TheVariants.{Instruction as BadForm}
use Rattle.processor.specs.declared.state.State.{State}
use Rattle.instructions.specs.Operation.{decoded}
use Rattle.instructions.specs.Instruction.{fits, fits_if, well_formed}
use Rattle.instructions.specs.Permission.{hidden, shown}
use Rattle.perform.specs.Codes.{target, framed, program_if, codes}
use Rattle.perform.specs.Exec.{InstructionSet, or_wrss, operation_of, whole, exec, refused, perform}
use Rattle.perform.proofs.ExecLaws.{built_whole}
use Rattle.replay.specs.Run.{Input, built}
use Rattle.instructions.specs.declared.instruction.Instruction.{Instruction}
use Rattle.instructions.specs.declared.operation.Operation.{Operation}
use Rattle.instructions.specs.declared.operation.Operation.TheVariants.{Incssp, Rstorssp, Saveprevssp, Wrss, Call, Ret, Wruss}
use Rattle.claims.proofs.Walks.{left, Rule, Walks, ending_in, end_walks, then_walks, Breaks, Walked, walked, bytes_kept}
use Rattle.claims.proofs.IncsspWalk.{incssp_rule, incssp_walk}
use Rattle.claims.proofs.RstorsspWalk.{rstorssp_rule, rstorssp_walk}
use Rattle.claims.proofs.SaveprevsspWalk.{saveprevssp_rule, saveprevssp_walk}
use Rattle.claims.proofs.WrssWalk.{wrss_rule, wrss_walk}
use Rattle.claims.proofs.CallWalk.{call_rule, call_walk}
use Rattle.claims.proofs.RetWalk.{ret_rule, ret_walk}
use Rattle.claims.proofs.WrussWalk.{wruss_rule, wruss_walk}
use Rattle.claims.proofs.Counts.{refused_stops, faulted_stops, refused_no_fault}

-- ---- an operation

abbrev pub rule_of : Lookup → List ℕ → Operation → Instruction → State → Rule State
rule_of look bytes (Incssp size) i s = incssp_rule size i.b i.length s
rule_of look bytes Rstorssp i s = rstorssp_rule look bytes i.a i.length s
rule_of look bytes Saveprevssp i s = saveprevssp_rule look bytes i.length s
rule_of look bytes (Wrss size) i s = wrss_rule size i.a i.b i.length s
rule_of look bytes (Call how) i s = call_rule (target how i s) (framed how i) i.length s
rule_of look bytes (Ret release) i s = ret_rule look bytes i.a s
rule_of look bytes (Wruss size) i s = wruss_rule size i.a i.b i.length s

-- by a code that is known; one that is not has been refused before
abbrev pub rule_if : Lookup → List ℕ → Option Operation → Instruction → State → Rule State
rule_if look bytes (Some op) i s = rule_of look bytes op i s
rule_if look bytes None i s = record { loads = λ a. ⊥; stops = λ fault. fault ≡ ud; stores = λ a v. ⊥; ends = λ t. ⊥ }

operation_walk : (look : Lookup) (bytes : List ℕ) (op : Option Operation) (i : Instruction) (allowed : Bool) (s : State)
    → Walks look (rule_if look bytes op i s) (or_wrss op i allowed s (program_if op i s)) bytes
unfolding Walks
operation_walk look bytes (Some (Incssp size)) i allowed s = incssp_walk look size i.b i.length s bytes
operation_walk look bytes (Some Rstorssp) i allowed s = rstorssp_walk look i.a i.length s bytes
operation_walk look bytes (Some Saveprevssp) i allowed s = saveprevssp_walk look i.length s bytes
operation_walk look bytes (Some (Wrss size)) i allowed s = wrss_walk look size allowed i.a i.b i.length s bytes
operation_walk look bytes (Some (Call how)) i allowed s = call_walk look (target how i s) (framed how i) i.length s bytes
operation_walk look bytes (Some (Ret release)) i allowed s = ret_walk look i.a s bytes
operation_walk look bytes (Some (Wruss size)) i allowed s = wruss_walk look size i.a i.b i.length s bytes
operation_walk look bytes None i allowed s = refl

-- ---- a single operation of any instruction set

-- by how its program ends
settled : (rule : Rule State) (s : State) (bytes : List ℕ) (r : Ending State) → Walked rule r
    → ((settle s bytes r).answer ≡ Completed → rule.ends (settle s bytes r).state) × ((fault : Fault) → (settle s bytes r).answer ≡ Faulted fault → Breaks rule fault)
settled rule s bytes (ended t after) walk = (λ e. walk, λ fault e. absurd (faulted_stops fault (sym e)))
settled rule s bytes (broken other) walk = (λ e. absurd (faulted_stops other e), λ fault e. let same : other ≡ fault = cc in rw same at walk)

settled_bytes : (Q : List ℕ → Type 0) (s : State) (bytes : List ℕ) (r : Ending State) → Q (left r bytes) → Q (settle s bytes r).bytes
settled_bytes Q s bytes (ended t after) kept = kept
settled_bytes Q s bytes (broken fault) kept = kept

module _ (set : InstructionSet) (look : Lookup) (i : Instruction) (s : State) (bytes : List ℕ) (rule : Rule State) (walk : Walks look rule (exec set i s) bytes) where
  abbrev now : Bool → Step
  now t = cond t (settle s bytes (interp look (exec set i s) bytes)) (refused BadForm s bytes)

  abbrev end : Walked rule (interp look (exec set i s) bytes)
  end = walked look rule (exec set i s) bytes walk

  performed_ends : (perform set look i s bytes).answer ≡ Completed → (set.fits i (hidden s) ≡ true) × rule.ends (perform set look i s bytes).state
  unfolding perform operate
  performed_ends = go (set.fits i (hidden s))
    where
      go : (t : Bool) → (now t).answer ≡ Completed → (t ≡ true) × rule.ends (now t).state
      go true e = (refl, (settled rule s bytes (interp look (exec set i s) bytes) end).0 e)
      go false e = absurd (refused_stops BadForm e)

  performed_breaks : (fault : Fault) → (perform set look i s bytes).answer ≡ Faulted fault → (set.fits i (hidden s) ≡ true) × Breaks rule fault
  unfolding perform operate
  performed_breaks fault = go (set.fits i (hidden s))
    where
      go : (t : Bool) → (now t).answer ≡ Faulted fault → (t ≡ true) × Breaks rule fault
      go true e = (refl, (settled rule s bytes (interp look (exec set i s) bytes) end).1 fault e)
      go false e = absurd (refused_no_fault BadForm fault e)

  pub performed_bytes : (Q : List ℕ → Type 0) → ((a : Access) (v : ℕ) (left : List ℕ) → rule.stores a v → probe look a ≡ Ok tt → Q left → Q (written look a v left))
      → Q bytes → Q (perform set look i s bytes).bytes
  unfolding perform operate
  performed_bytes Q keeps start = go (set.fits i (hidden s))
    where
      go : (t : Bool) → Q (now t).bytes
      go true = settled_bytes Q s bytes (interp look (exec set i s) bytes) (bytes_kept look rule Q bytes start keeps (exec set i s) bytes walk start)
      go false = start

-- ---- of the codes that are built

-- the rule of an instruction's operation
abbrev pub its_rule : Lookup → Instruction → State → List ℕ → Rule State
its_rule look i s bytes = rule_if look bytes (decoded i.code) i (hidden s)

-- it ends where its operation ends, with the bits put back
abbrev pub Shown : Lookup → Instruction → State → List ℕ → State → Type 0
Shown look i s bytes last = (t : State) × (its_rule look i s bytes).ends t × (last ≡ shown s t)

abbrev pub shown_rule : Lookup → Instruction → State → List ℕ → Rule State
shown_rule look i s bytes = ending_in (its_rule look i s bytes) (Shown look i s bytes)

-- what is not refused: the operation that its code names, and its form
pub record Formed (i : Instruction) (s : State) : Type 0 where
  pub op : Operation
  pub named : decoded i.code ≡ Some op
  pub form : fits op i s.mode ≡ true

formed : (i : Instruction) (s : State) → well_formed i s.mode ≡ true → Formed i s
unfolding well_formed
formed i s = go (decoded i.code) refl
  where
    go : (d : Option Operation) → decoded i.code ≡ d → fits_if d i s.mode ≡ true → Formed i s
    go (Some op) e form = record { op = op; named = e; form = form }
    go None e none = absurd (false≢true none)

-- by which its rule is that of the operation
named_ends : (look : Lookup) (bytes : List ℕ) (op : Operation) (d : Option Operation) (i : Instruction) (s t : State)
    → d ≡ Some op → (rule_if look bytes d i s).ends t → (rule_of look bytes op i s).ends t
named_ends look bytes op d i s t e ends = subst (λ d. (rule_if look bytes d i s).ends t) e ends

-- and where it ends, if it completes
pub record Ended (look : Lookup) (i : Instruction) (s : State) (bytes : List ℕ) (last : State) : Type 0 where
  pub of : Formed i s
  pub end : State
  pub ends : (rule_of look bytes of.op i (hidden s)).ends end
  pub bits_back : last ≡ shown s end

module _ (given : Input) (look : Lookup) (i : Instruction) (s : State) (bytes : List ℕ) where
  pub exec_walk : Walks look (shown_rule look i s bytes) (exec (built given) i s) bytes
  unfolding exec
  exec_walk =
      rw (built_whole i (permitted s) (hidden s))
      (then_walks look (shown_rule look i s bytes) (its_rule look i s bytes).ends _ _ bytes (operation_walk look bytes (decoded i.code) i (permitted s) (hidden s)) (λ t after ends.
      end_walks look (shown_rule look i s bytes) (shown s t) after (t, ends, refl)))

  pub completes_at : (perform (built given) look i s bytes).answer ≡ Completed → Ended look i s bytes (perform (built given) look i s bytes).state
  unfolding hidden
  completes_at done =
      let both = performed_ends (built given) look i s bytes (shown_rule look i s bytes) exec_walk done in
      let of = formed i s both.0 in
      record { of = of; end = both.1.0; ends = named_ends look bytes of.op (decoded i.code) i (hidden s) both.1.0 of.named both.1.1; bits_back = both.1.2 }

  pub breaks_at : (fault : Fault) → (perform (built given) look i s bytes).answer ≡ Faulted fault → Formed i s × Breaks (shown_rule look i s bytes) fault
  unfolding hidden
  breaks_at fault e =
      let both = performed_breaks (built given) look i s bytes (shown_rule look i s bytes) exec_walk fault e in
      (formed i s both.0, both.1)

  pub keeps_bytes : (Q : List ℕ → Type 0) → ((a : Access) (v : ℕ) (left : List ℕ) → (its_rule look i s bytes).stores a v → probe look a ≡ Ok tt → Q left → Q (written look a v left))
      → Q bytes → Q (perform (built given) look i s bytes).bytes
  keeps_bytes = performed_bytes (built given) look i s bytes (shown_rule look i s bytes) exec_walk
