-- Every claim is proved. Assumes nothing.
use Rattle.claims.specs.Promises.{Demand1, Demand3, Promises}
use Rattle.claims.proofs.EndsProof.{refused_before, unchanged, count_tied, completed_exactly, step_is_run, at_most_n}
use Rattle.claims.proofs.MorePagesProof.{more_pages}
use Rattle.claims.proofs.MoreRightsProof.{more_rights}
use Rattle.claims.proofs.ListOrderProof.{order_free}
use Rattle.claims.proofs.LedgerProof.{ledger_in_one_mode, keeps_one_mode, ledger}
use Rattle.claims.proofs.RangesProof.{stays_in_range, run_stays_in_range}
use Rattle.claims.proofs.FaultsProof.{fault_numbers}
use Rattle.claims.proofs.CallOfNextProof.{same_call_of_next, call_of_next_untouched}
use Rattle.claims.proofs.StepByStepProof.{step_by_step_in_range, step_by_step}
use Rattle.claims.proofs.RefusalNumbersProof.{same_refusal_numbers}
use Rattle.worked.proofs.WorkedProof.{worked, worked_returns}

pub demand_1 : Demand1
demand_1 = record {
  refused_before = refused_before;
  unchanged = unchanged;
  count_tied = count_tied;
  completed_exactly = completed_exactly;
  step_is_run = step_is_run;
  at_most_n = at_most_n;
}

pub demand_3 : Demand3
demand_3 = record { more_pages = more_pages; more_rights = more_rights }

pub promised : Promises
promised = record {
  demand_1 = demand_1;
  demand_3 = demand_3;
  order_free = order_free;
  ledger_in_one_mode = ledger_in_one_mode;
  keeps_one_mode = keeps_one_mode;
  ledger = ledger;
  stays_in_range = stays_in_range;
  run_stays_in_range = run_stays_in_range;
  fault_numbers = fault_numbers;
  same_call_of_next = same_call_of_next;
  call_of_next_untouched = call_of_next_untouched;
  step_by_step_in_range = step_by_step_in_range;
  step_by_step = step_by_step;
  same_refusal_numbers = same_refusal_numbers;
  worked = worked;
  worked_returns = worked_returns;
}
