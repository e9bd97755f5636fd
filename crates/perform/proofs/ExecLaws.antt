-- One instruction, from the operation that it runs on the state without the permission bits. Assumes nothing.
use Rattle.std.proofs.Common.{ℕ, Bool, true, false, List, ◌≡◌, refl, sym, ◌∙◌, ap, Option, Some, None, Result, Ok, Err}
use Rattle.pages.specs.Pages.{Lookup}
use Rattle.answers.specs.declared.answer.Answer.{Answer}
use Rattle.answers.specs.declared.answer.Answer.TheVariants.{Completed, Refused, Faulted}
use Rattle.answers.specs.declared.answer.Fault.{Fault}
use Rattle.answers.specs.declared.answer.Refusal.TheVariants.{Instruction as BadForm}
use Rattle.processor.specs.Outcomes.{step_of, ended_by}
use Rattle.processor.specs.Prog.{Prog, done, ◌>>=◌, Ending, ended, broken, interp, Step, settle, operate}
use Rattle.processor.specs.State.{permitted}
use Rattle.processor.specs.declared.state.State.{State}
use Rattle.processor.proofs.Laws.{continues, breaks}
use Rattle.instructions.specs.Instruction.{fits, fits_if, well_formed}
use Rattle.instructions.specs.Permission.{hidden, shown}
use Rattle.instructions.specs.Operation.{decoded, named}
use Rattle.instructions.specs.declared.instruction.Instruction.{Instruction}
use Rattle.instructions.specs.declared.operation.Operation.{Operation}
use Rattle.instructions.specs.declared.operation.UnknownCode.{UnknownCode}
use Rattle.perform.specs.Codes.{program, program_if, codes}
use Rattle.perform.specs.Exec.{InstructionSet, or_wrss, operation_of, whole, exec, refused, perform}

-- by an operation's answer: its state with the permission bits put back, or the state from before it
abbrev back : State → State → Answer → State
back before after Completed = shown before after
back before after (Refused refusal) = before
back before after (Faulted fault) = before

-- what is handed back, from what the operation handed back
abbrev pub back_from : State → Step → Step
back_from before now = record { answer = now.answer; state = back before now.state now.answer; bytes = now.bytes }

-- a program whose last state gets the permission bits of another
abbrev pub put_back : Prog State → State → Prog State
put_back p s = p >>= (λ t. done (shown s t))

-- it does what the program does, with the bits put back
pub put_back_lem : (look : Lookup) (p : Prog State) (s h : State) (bytes : List ℕ) → operate look (put_back p s) s bytes ≡ back_from s (operate look p h bytes)
unfolding operate interp
put_back_lem look p s h bytes = go (interp look p bytes) refl
  where
    again : State → Prog State
    again t = done (shown s t)

    go : (r : Ending State) → interp look p bytes ≡ r → settle s bytes (interp look (p >>= again) bytes) ≡ back_from s (settle h bytes r)
    go (ended t left) e = ap (settle s bytes) (continues look again p bytes t left e)
    go (broken fault) e = ap (settle s bytes) (breaks look again p bytes fault e)

-- a well-formed instruction of any set
pub performed : (set : InstructionSet) (look : Lookup) (i : Instruction) (s : State) (bytes : List ℕ) → set.fits i (hidden s) ≡ true
    → perform set look i s bytes ≡ back_from s (operate look (whole set i (permitted s) (hidden s)) (hidden s) bytes)
unfolding perform exec
performed set look i s bytes e = rw e (put_back_lem look (whole set i (permitted s) (hidden s)) s (hidden s) bytes)

-- of the built codes, a form depends on the mode alone, and its operation is decoded once
pub form_fits : (i : Instruction) (s : State) (op : Option Operation) (t : Bool) → decoded i.code ≡ op → fits_if op i s.mode ≡ t → codes.fits i (hidden s) ≡ t
unfolding hidden well_formed
form_fits i s op t d e = rw d e

-- nothing precedes an instruction of these, and an operation is named by the code
pub built_whole : (i : Instruction) (allowed : Bool) (s : State) → whole codes i allowed s ≡ or_wrss (decoded i.code) i allowed s (program_if (decoded i.code) i s)
unfolding whole operation_of ◌>>=◌
built_whole i allowed s = refl

-- what a code names, from what came of taking it for an operation
module _ (code : ℕ) where
  pub names : (op : Operation) → named code ≡ Ok op → decoded code ≡ Some op
  names op e = go (decoded code) refl
    where
      go : (d : Option Operation) → decoded code ≡ d → decoded code ≡ Some op
      go (Some other) d = let same : ◌≡◌ {A = Result Operation UnknownCode} (Ok other) (Ok op) = rw d at e in cc
      go None d = let none : ◌≡◌ {A = Result Operation UnknownCode} (Err (record { 0 = code })) (Ok op) = rw d at e in cc

module _ (look : Lookup) (i : Instruction) (s : State) (bytes : List ℕ) where
  -- of a code that names no operation, or one of another form
  pub malformed : ((op : Operation) → named i.code ≡ Ok op → fits op i s.mode ≡ false) → refused BadForm s bytes ≡ perform codes look i s bytes
  unfolding perform well_formed hidden
  malformed none = go (decoded i.code) refl
    where
      go : (d : Option Operation) → decoded i.code ≡ d → refused BadForm s bytes ≡ perform codes look i s bytes
      go (Some op) d = rw (d, none op (rw d))
      go None d = rw d

  -- well-formed, from what its operation hands back on the state without the permission bits
  pub answered : (op : Operation) (r : Result State Fault) (left : List ℕ) → named i.code ≡ Ok op → fits op i s.mode ≡ true
      → step_of (ended_by (hidden s) r) left ≡ operate look (or_wrss (Some op) i (permitted s) (hidden s) (program op i (hidden s))) (hidden s) bytes
      → back_from s (step_of (ended_by (hidden s) r) left) ≡ perform codes look i s bytes
  answered op r left name form ran =
      let code : decoded i.code ≡ Some op = names i.code op name in
      let whole_is = built_whole i (permitted s) (hidden s) in
      let now : operate look (whole codes i (permitted s) (hidden s)) (hidden s) bytes ≡ step_of (ended_by (hidden s) r) left = rw (whole_is, code) (sym ran) in
      ap (back_from s) (sym now) ∙ sym (performed codes look i s bytes (form_fits i s (Some op) true code form))
