-- What one instruction comes to, and what an operation's result makes of it. Assumes nothing.
use Rattle.std.specs.Prelude.{ℕ, List, Result, Ok, Err}
use Rattle.processor.specs.Prog.{Step}
use Rattle.processor.specs.Layout.{with_ip}
use Rattle.answers.specs.declared.answer.Answer.TheVariants.{Completed, Refused, Faulted}
use Rattle.answers.specs.declared.answer.Fault.{Fault}
use Rattle.answers.specs.declared.answer.Refusal.{Refusal}
use Rattle.processor.specs.declared.outcome.Outcome.{Outcome}
use Rattle.processor.specs.declared.state.State.{State}

-- done: IP moves on
abbrev pub completed : State → ℕ → Outcome
completed s ip = record { answer = Completed; state = with_ip s ip }

-- a fault leaves the state alone
abbrev pub faulted : State → Fault → Outcome
faulted s fault = record { answer = Faulted fault; state = s }

-- so does a refusal
abbrev pub refused : State → Refusal → Outcome
refused s refusal = record { answer = Refused refusal; state = s }

-- what an operation hands back, as an outcome: the state after it, or the fault and the state from before it
abbrev pub ended_by : State → Result State Fault → Outcome
ended_by s (Ok after) = record { answer = Completed; state = after }
ended_by s (Err fault) = faulted s fault

-- an outcome with the bytes that are left, as one step
abbrev pub step_of : Outcome → List ℕ → Step
step_of outcome bytes = record { answer = outcome.answer; state = outcome.state; bytes = bytes }
