-- `write` meets its contract: its tests are those of a run, and a run that passes them is printed. Assumes nothing.
use Rattle.std.proofs.Common.{◌∙◌, sym}
use Rattle.std.proofs.lemmas.Result.{err_from_is_err_and}
use Rattle.sheet_write.proofs.Answers.{refused, passed}
use Rattle.sheet_write.proofs.text.write.Goals as goal

pub returns-in_err-check : goal.returns-in_err-check
returns-in_err-check c =
    let p = err_from_is_err_and c.from_residual.result c.from_residual.ensures.1 in
    let tests = rw c.good_state-good.ensures at c.in_err-check.ensures in
    rw (p.1, p.2) (refused _ _ _ (sym tests))

pub print-requires : goal.print-requires
print-requires c = let tests = rw c.good_state-good.ensures at c.in_ok-check.ensures in sym tests

pub returns : goal.returns
returns c = let tests = rw c.good_state-good.ensures at c.in_ok-check.ensures in c.print.ensures ∙ passed _ _ (sym tests)
