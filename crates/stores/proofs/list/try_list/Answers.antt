-- `try_list` meets its contract: the first store that cannot be done answers, else all can. Assumes nothing.
use Rattle.std.proofs.Common.{sym, ◌∙◌}
use Rattle.std.proofs.lemmas.Result.{err_from_is_err_and}
use Rattle.stores.proofs.Turns.{try_from, try_none}
use Rattle.stores.proofs.list.try_list.Goals as goal

pub returns-in_err-locate : goal.returns-in_err-locate
returns-in_err-locate c =
    let p = err_from_is_err_and c.from_residual.result c.from_residual.ensures.1 in
    rw (p.1, p.2, c.loop-store.invariant, try_from _ _ _ c.loop-store-test.true, ← c.locate.ensures, c.in_err-locate.was)

pub loop-store-preserved : goal.loop-store-preserved
loop-store-preserved c =
    c.loop-store.invariant ∙ try_from _ _ _ c.loop-store-test.true ∙ rw (← c.locate.ensures, c.in_ok-locate.was)

pub returns : goal.returns
returns c = sym (c.loop-store.invariant ∙ try_none _ c.args.stores.now c.loop-store.store-index c.loop-store-test.false)
