-- The theorems on whole runs, each of the type of that name in specs/, and what they stand on.
--
--     EndsProof              refused_before, unchanged, count_tied, completed_exactly, at_most_n, step_is_run (demand 1)
--     MorePagesProof         more_pages (demand 3, page lists)
--     MoreRightsProof        more_rights (demand 3, permission bits)
--     ListOrderProof         order_free (the order of a page list)
--     LedgerProof            ledger_in_one_mode, keeps_one_mode, ledger
--     RangesProof            stays_in_range, run_stays_in_range
--     FaultsProof            fault_numbers
--     CallOfNextProof        same_call_of_next, call_of_next_untouched (CALL with displacement 0 does not use the shadow stack)
--     StepByStepProof        step_by_step_in_range, step_by_step (the public single step, again and again)
--     RefusalNumbersProof    same_refusal_numbers (refusals 1 to 4)
--     WorkedProof            worked, worked_returns (the worked cases, in crates/worked)
--     Promised               demand_1, demand_3, promised: all of them

pub mod EndsProof
pub mod MorePagesProof
pub mod MoreRightsProof
pub mod ListOrderProof
pub mod LedgerProof
pub mod RangesProof
pub mod FaultsProof
pub mod CallOfNextProof
pub mod StepByStepProof
pub mod RefusalNumbersProof
pub mod Promised
mod Counts
mod Beside
mod NeverBack
mod GrantedSteps
mod PermissionBits
mod Walks
mod IncsspWalk
mod WrssWalk
mod WrussWalk
mod RstorsspWalk
mod SaveprevsspWalk
mod CallWalk
mod RetWalk
mod InstructionWalk
mod RangeParts
mod KeptAlong
