-- The worked cases, by computation: every definition on the way is opened, and both sides come to the same lists. Assumes nothing.
use Rattle.std.proofs.Common.{refl}
use Rattle.accesses.specs.Access.{scan, number, write, lookup_of, canonical_bytes, listed_bytes, probe, value, written}
use Rattle.addresses.specs.Address.{wrapped, plus, minus, canonical}
use Rattle.pages.specs.Pages.{page_of, kind_of, wrong_length, bad_kind, bad_address, on_page, repeated, listing, in_page, spot_from, spot}
use Rattle.processor.specs.Prog.{◌>>=◌, interp, operate}
use Rattle.processor.specs.Layout.{state_of}
use Rattle.processor.specs.State.{plus as plus_of, minus as minus_of, next, enabled, usable, permitted, fixed_fit, cet_fits, pointers_fit, in_range}
use Rattle.incssp.specs.Incssp.{incssp}
use Rattle.wrss.specs.Wrss.{wrss}
use Rattle.wruss.specs.Wruss.{recognised, wruss}
use Rattle.rstorssp.specs.Rstorssp.{home, good_token, restored_flags, rstorssp}
use Rattle.saveprevssp.specs.Saveprevssp.{pop_hole, new_top, saved_token, leave_token, saveprevssp}
use Rattle.targets.specs.Targets.{displacement, relative, displaced, in_code, runs_past}
use Rattle.call.specs.Call.{pushes_frame, call}
use Rattle.ret.specs.Ret.{pop_frame, new_ssp, ret}
use Rattle.instructions.specs.Operation.{decoded}
use Rattle.instructions.specs.Instruction.{instruction_at, length_fits, narrow, mode_fits, fits, well_formed}
use Rattle.instructions.specs.Permission.{write_bit, without_write, hidden, shown}
use Rattle.perform.specs.Exec.{operation_of, whole, exec, perform}
use Rattle.replay.specs.Run.{bad_words, check_by, check, run_from, run}
use Rattle.worked.specs.Worked.{place_in, low_bytes, over, laid_over, with_words, lent_bytes, result, expected, Worked}
use Rattle.worked.specs.WorkedReturns.{WorkedReturns}

all_worked : Worked × WorkedReturns
unfolding scan canonical_bytes listed_bytes probe number value write written wrapped plus minus canonical
    page_of kind_of wrong_length bad_kind bad_address on_page repeated listing in_page spot_from spot lookup_of
    ◌>>=◌ interp operate plus_of minus_of next enabled usable permitted state_of fixed_fit cet_fits pointers_fit in_range
    incssp wrss recognised wruss home good_token restored_flags rstorssp pop_hole new_top saved_token leave_token saveprevssp
    displacement relative displaced in_code runs_past pushes_frame call pop_frame new_ssp ret
    decoded instruction_at length_fits narrow mode_fits fits well_formed
    write_bit without_write hidden shown operation_of whole exec perform bad_words check_by check run_from run
    place_in low_bytes over laid_over with_words lent_bytes result expected
all_worked = (refl, refl)

pub worked : Worked
worked = all_worked.0

pub worked_returns : WorkedReturns
worked_returns = all_worked.1
