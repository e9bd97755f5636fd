-- `locate` meets its contract: what the first byte tells, or on two pages every byte. Assumes nothing.
use Rattle.std.proofs.Common.{ap, Err}
use Rattle.std.proofs.lemmas.Result.{err_from_is_err_and}
use Rattle.accesses.specs.Access.{lookup_of}
use Rattle.memory.specs.Blocked.{against}
use Rattle.memory.proofs.OnePage.{one_told, two_told, failure_told, placed_located, failed_located}
use Rattle.memory.proofs.one_page.locate.Goals as goal

pub returns-in_err-place : goal.returns-in_err-place
unfolding lookup_of
returns-in_err-place c =
    let p = err_from_is_err_and c.from_residual.result c.from_residual.ensures.1 in
    let failed = failure_told _ _ _ c.quick.ensures c.in_err-place.was in
    rw (p.1, p.2, failed_located _ _ _ failed.probed) (ap Err failed.named)

pub returns-in-Some : goal.returns-in-Some
unfolding lookup_of
returns-in-Some c =
    ap (against c.args.access) (placed_located _ _ _ (one_told _ _ _ c.quick.ensures c.in_ok-place.was c.in-Some.is))

pub returns-in-Ok : goal.returns-in-Ok
unfolding lookup_of
returns-in-Ok c =
    rw (two_told _ _ _ c.quick.ensures c.in_ok-place.was c.in-None.is, ← c.try_each.ensures, c.in-Ok.is)

pub returns-in-Err : goal.returns-in-Err
unfolding lookup_of
returns-in-Err c =
    rw (two_told _ _ _ c.quick.ensures c.in_ok-place.was c.in-None.is, ← c.try_each.ensures, c.in-Err.is)
