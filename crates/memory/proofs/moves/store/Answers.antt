-- `store` meets its contract: on one page by the place of its first byte, on two byte by byte, or every byte left as it was.
-- Assumes nothing.
use Rattle.std.proofs.Common.{sym, ◌∙◌, ap, Err}
use Rattle.std.proofs.lemmas.Result.{err_from_is_err_and}
use Rattle.accesses.specs.Access.{lookup_of}
use Rattle.accesses.proofs.Laws.{store_failed}
use Rattle.memory.proofs.OnePage.{one_told, failure_told, page_holds, store_placed}
use Rattle.memory.proofs.moves.store.Goals as goal

pub returns-in_err-place : goal.returns-in_err-place
unfolding lookup_of
returns-in_err-place c =
    let p = err_from_is_err_and c.from_residual.result c.from_residual.ensures.1 in
    let failed = failure_told _ _ _ c.quick.ensures c.in_err-place.was in
    record {
      value = rw (p.1, p.2, failed.probed) (ap Err failed.named);
      bytes_after = sym (store_failed _ _ _ _ _ failed.probed);
    }

pub store_within-requires : goal.store_within-requires
unfolding lookup_of
store_within-requires c =
    page_holds _ _ _ _ (one_told _ _ _ c.quick.ensures c.in_ok-place.was c.in-Some.is)

pub returns : goal.returns
unfolding lookup_of
returns c =
    let placed = one_told _ _ _ c.quick.ensures c.in_ok-place.was c.in-Some.is in
    record {
      value = rw placed.ready;
      bytes_after = c.store_within.ensures ∙ sym (store_placed _ _ _ _ placed _ _);
    }
