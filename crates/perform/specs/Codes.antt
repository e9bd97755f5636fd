-- The instruction set that is built: what each operation does (docs/RULES.md, "Instructions"). Assumes nothing.
use Rattle.std.specs.Prelude.{ℕ, Bool, false, true, Option, Some, None}
use Rattle.answers.specs.Answer.{ud}
use Rattle.processor.specs.Prog.{Prog, done, stop}
use Rattle.processor.specs.declared.state.State.{State}
use Rattle.incssp.specs.Incssp.{incssp}
use Rattle.wrss.specs.Wrss.{wrss}
use Rattle.wruss.specs.Wruss.{wruss}
use Rattle.rstorssp.specs.Rstorssp.{rstorssp}
use Rattle.saveprevssp.specs.Saveprevssp.{saveprevssp}
use Rattle.targets.specs.Targets.{relative, displaced}
use Rattle.call.specs.Call.{call}
use Rattle.ret.specs.Ret.{ret}
use Rattle.instructions.specs.Operation.{decoded}
use Rattle.instructions.specs.Instruction.{well_formed}
use Rattle.perform.specs.Exec.{InstructionSet}
use Rattle.instructions.specs.declared.instruction.Instruction.{Instruction}
use Rattle.instructions.specs.declared.operation.Operation.{Operation}
use Rattle.instructions.specs.declared.operation.Operation.TheVariants.{Incssp, Rstorssp, Saveprevssp, Wrss, Call, Ret, Wruss}
use Rattle.instructions.specs.declared.operation.Target.{Target}
use Rattle.instructions.specs.declared.operation.Target.TheVariants.{Relative, Absolute}

-- the target of a call: relative to Next, or A
abbrev pub target : Target → Instruction → State → ℕ
target Relative i s = relative s i.a i.length
target Absolute i s = i.a

-- whether a call is of a form that makes a shadow frame, where the shadow stack is enabled: a relative one unless its displacement is 0, an
-- absolute one also where its target is Next
abbrev pub framed : Target → Instruction → Bool
framed Relative i = displaced i.a
framed Absolute i = true

-- What each operation does. WRSS is told besides whether it is permitted (`or_wrss`), so that its line here is not used; A is 0 in RET
-- without a count.
abbrev pub program : Operation → Instruction → State → Prog State
program (Incssp size) i s = incssp size i.b i.length s
program Rstorssp i s = rstorssp i.a i.length s
program Saveprevssp i s = saveprevssp i.length s
program (Wrss size) i s = wrss size false i.a i.b i.length s
program (Call how) i s = call (target how i s) (framed how i) i.length s
program (Ret release) i s = ret i.a s
program (Wruss size) i s = wruss size i.a i.b i.length s

-- by a code that is known; one that is not has been refused before
abbrev pub program_if : Option Operation → Instruction → State → Prog State
program_if (Some op) i s = program op i s
program_if None i s = stop ud

-- before every instruction, WRSS too: nothing
abbrev pub preceding : Instruction → State → Prog (Unit {0})
preceding i s = done tt

abbrev pub codes : InstructionSet
codes = record { fits = λ i s. well_formed i s.mode; precedes = preceding; operation = λ i s. program_if (decoded i.code) i s }
