-- How a pop ends that an operation goes on from, for the contracts of the operations' private functions. Assumes nothing.
use Rattle.std.specs.Prelude.{ℕ, List, Result, Ok, Err}
use Rattle.processor.specs.Prog.{Ending, ended, broken}
use Rattle.answers.specs.declared.answer.Fault.{Fault}

-- it gives the new top of the stack, or the fault on the way to it; a pop stores nothing
abbrev pub result_of : Result ℕ Fault → List ℕ → Ending ℕ
result_of (Ok top) bytes = ended top bytes
result_of (Err fault) bytes = broken fault
