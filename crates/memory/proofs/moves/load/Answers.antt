-- `load` meets its contract: from one page by the place of its first byte, from two byte by byte, or not at all. Assumes nothing.
use Rattle.std.proofs.Common.{ap, Err}
use Rattle.std.proofs.lemmas.Result.{err_from_is_err_and}
use Rattle.accesses.specs.Access.{lookup_of}
use Rattle.accesses.proofs.Laws.{load_failed}
use Rattle.memory.proofs.OnePage.{one_told, failure_told, page_holds, load_placed}
use Rattle.memory.proofs.moves.load.Goals as goal

pub returns-in_err-place : goal.returns-in_err-place
unfolding lookup_of
returns-in_err-place c =
    let p = err_from_is_err_and c.from_residual.result c.from_residual.ensures.1 in
    let failed = failure_told _ _ _ c.quick.ensures c.in_err-place.was in
    rw (p.1, p.2, load_failed _ _ _ _ failed.probed) (ap Err failed.named)

pub load_within-requires : goal.load_within-requires
unfolding lookup_of
load_within-requires c =
    page_holds _ _ _ _ (one_told _ _ _ c.quick.ensures c.in_ok-place.was c.in-Some.is)

pub returns-in-Some : goal.returns-in-Some
unfolding lookup_of
returns-in-Some c =
    rw (load_placed _ _ _ _ (one_told _ _ _ c.quick.ensures c.in_ok-place.was c.in-Some.is) _, c.load_within.ensures)
