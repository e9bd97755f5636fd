-- Every claim in one place. The theorem `promised` (proofs/Promised.antt) is of the last type here, so a claim that lost its proof would be
-- an error. Demand 2 is not among them: it is the contracts of `step`, `run` and `driftpocket_run`. Assumes nothing.
use Rattle.claims.specs.Ends.{RefusedBefore, Unchanged, CountTied, CompletedExactly, StepIsRun, AtMostN}
use Rattle.claims.specs.MorePages.{MorePages}
use Rattle.claims.specs.MoreRights.{MoreRights}
use Rattle.claims.specs.ListOrder.{OrderFree}
use Rattle.claims.specs.Ledger.{LedgerInOneMode, KeepsOneMode, Ledger}
use Rattle.claims.specs.Ranges.{StaysInRange, RunStaysInRange}
use Rattle.claims.specs.Faults.{FaultNumbers}
use Rattle.claims.specs.CallOfNext.{SameCallOfNext, CallOfNextUntouched}
use Rattle.claims.specs.StepByStep.{StepByStepInRange, StepByStep}
use Rattle.claims.specs.RefusalNumbers.{SameRefusalNumbers}
use Rattle.worked.specs.Worked.{Worked}
use Rattle.worked.specs.WorkedReturns.{WorkedReturns}

-- what is malformed is refused, nothing is lost, and every run ends
pub record Demand1 : Type 0 where
  pub refused_before : RefusedBefore
  pub unchanged : Unchanged
  pub count_tied : CountTied
  pub completed_exactly : CompletedExactly
  pub step_is_run : StepIsRun
  pub at_most_n : AtMostN

-- more memory or more rights never alter an answer already given
pub record Demand3 : Type 0 where
  pub more_pages : MorePages
  pub more_rights : MoreRights

pub record Promises : Type 0 where
  pub demand_1 : Demand1
  pub demand_3 : Demand3
  pub order_free : OrderFree
  pub ledger_in_one_mode : LedgerInOneMode
  pub keeps_one_mode : KeepsOneMode
  pub ledger : Ledger
  pub stays_in_range : StaysInRange
  pub run_stays_in_range : RunStaysInRange
  pub fault_numbers : FaultNumbers
  pub same_call_of_next : SameCallOfNext
  pub call_of_next_untouched : CallOfNextUntouched
  pub step_by_step_in_range : StepByStepInRange
  pub step_by_step : StepByStep
  pub same_refusal_numbers : SameRefusalNumbers
  pub worked : Worked
  pub worked_returns : WorkedReturns
