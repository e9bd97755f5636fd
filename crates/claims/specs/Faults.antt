-- The numbers of a fault (docs/RULES.md, "Refusals and answers"). Assumes nothing.
use Rattle.std.specs.Prelude.{ℕ, ◌<◌, ◌≡◌, cond, eqb, Some}
use Rattle.answers.specs.Answer.{vector_number}
use Rattle.answers.specs.declared.answer.Answer.TheVariants.{Faulted}
use Rattle.answers.specs.declared.answer.Fault.{Fault}
use Rattle.instructions.specs.Operation.{decoded}
use Rattle.replay.specs.Run.{Input, listed, Run, replayed}
use Rattle.instructions.specs.declared.operation.Operation.{Operation}
use Rattle.instructions.specs.declared.operation.Operation.TheVariants.{Incssp, Rstorssp, Saveprevssp, Wrss, Call, Ret, Wruss}

-- the error code of an operation's #CP; 0 where it raises none
abbrev pub control_code : Operation → ℕ
control_code (Incssp size) = 0
control_code Rstorssp = 4
control_code Saveprevssp = 0
control_code (Wrss size) = 0
control_code (Call target) = 0
control_code (Ret release) = 1
control_code (Wruss size) = 0

-- The fault of an operation. #CP (21) comes of RSTORSSP, with error code 4, and of RET, with 1, and of no other; any other fault has error
-- code 0. The address is 0 but for #PF (14).
pub record Numbered (op : Operation) (fault : Fault) : Type 0 where
  pub code : fault.code ≡ cond (eqb (vector_number fault.vector) 21) (control_code op) 0
  pub control : vector_number fault.vector ≡ 21 → 0 < control_code op
  pub address : (vector_number fault.vector ≡ 14 → ⊥) → fault.address ≡ 0

-- of every run that ends in a fault, and the instruction that it ended at, which names an operation
abbrev pub FaultNumbers : Type 0
FaultNumbers = (given : Input) (fault : Fault)
    → let r : Run = replayed given in
    r.answer ≡ Faulted fault → (op : Operation) × (decoded (listed given r.count).code ≡ Some op) × Numbered op fault
