-- One instruction of any instruction set: the form is tested, then its program runs (docs/RULES.md, "Refusals and answers"). What
-- holds of every instruction set, as demand 3, is shown over these definitions. Assumes nothing.
use Rattle.std.specs.Prelude.{ℕ, Bool, cond, List, Option}
use Rattle.pages.specs.Pages.{Lookup}
use Rattle.processor.specs.State.{permitted}
use Rattle.processor.specs.Prog.{Prog, done, ◌>>=◌, ◌>>◌, Step, operate}
use Rattle.answers.specs.declared.answer.Answer.TheVariants.{Refused}
use Rattle.answers.specs.declared.answer.Refusal.{Refusal}
use Rattle.answers.specs.declared.answer.Refusal.TheVariants.{Instruction as BadForm}
use Rattle.processor.specs.declared.state.State.{State}
use Rattle.wrss.specs.Wrss.{wrss}
use Rattle.instructions.specs.Operation.{decoded, is_wrss, wrss_size}
use Rattle.instructions.specs.Permission.{hidden, shown}
use Rattle.instructions.specs.declared.instruction.Instruction.{Instruction}
use Rattle.instructions.specs.declared.operation.Operation.{Operation}

-- An instruction set: the forms that it takes, what precedes every instruction, WRSS too, and what each instruction but WRSS does, all
-- by the state that operations see: the one without the permission bits (`hidden`).
pub record InstructionSet : Type 0 where
  pub fits : Instruction → State → Bool
  pub precedes : Instruction → State → Prog (Unit {0})
  pub operation : Instruction → State → Prog State

-- WRSS, which alone is told whether it is permitted, or another program
abbrev pub or_wrss : Option Operation → Instruction → Bool → State → Prog State → Prog State
or_wrss op i allowed s other = cond (is_wrss op) (wrss (wrss_size op) allowed i.a i.b i.length s) other

-- what an instruction does itself, by the state that operations see
unfoldable pub operation_of : InstructionSet → Instruction → Bool → State → Prog State
operation_of set i allowed s = or_wrss (decoded i.code) i allowed s (set.operation i s)

-- and with what precedes it
unfoldable pub whole : InstructionSet → Instruction → Bool → State → Prog State
whole set i allowed s = set.precedes i s >> operation_of set i allowed s

-- what an instruction does: the permission bits are put back after it
unfoldable pub exec : InstructionSet → Instruction → State → Prog State
exec set i s = whole set i (permitted s) (hidden s) >>= (λ t. done (shown s t))

-- a refusal changes no register and no byte
abbrev pub refused : Refusal → State → List ℕ → Step
refused refusal s bytes = record { answer = Refused refusal; state = s; bytes = bytes }

-- A single operation (the papers' term): answer, state and bytes after one instruction.
unfoldable pub perform : InstructionSet → Lookup → Instruction → State → List ℕ → Step
perform set look i s bytes = cond (set.fits i (hidden s)) (operate look (exec set i s) s bytes) (refused BadForm s bytes)
