-- `read` meets its contract: the scan, the test and the buffers decide in this order. Assumes nothing.
use Rattle.std.proofs.Common.{◌∙◌, sym}
use Rattle.std.proofs.lemmas.Result.{err_from_is_err_and}
use Rattle.sheet_read.proofs.Saved.{few_pages, refused, passed, no_sheet_lem}
use Rattle.sheet_read.proofs.buffers.read.Goals as goal

pub returns-in_err-shape : goal.returns-in_err-shape
returns-in_err-shape c =
    let p = err_from_is_err_and c.from_residual.result c.from_residual.ensures.1 in
    rw (p.1, p.2) (sym (no_sheet_lem c.args.text.now _ _ c.in_err-shape.ensures))

pub returns-in_err-judge : goal.returns-in_err-judge
returns-in_err-judge c =
    let p = err_from_is_err_and c.from_residual-in_err-judge.result c.from_residual-in_err-judge.ensures.1 in
    rw (p.1, p.2) (sym (refused c.in_ok-shape.shape _ c.args.text.now c.in_ok-shape.ensures _ (sym c.in_err-judge.ensures)))

pub load-requires : goal.load-requires
load-requires c = few_pages c.in_ok-shape.shape (sym c.in_ok-judge.ensures)

pub returns : goal.returns
returns c = c.load.ensures ∙ sym (passed c.in_ok-shape.shape _ c.args.text.now c.in_ok-shape.ensures (sym c.in_ok-judge.ensures))
