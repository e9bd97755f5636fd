-- `locate_all` meets its contract: the first store that cannot be done decides, else all were noted. Assumes nothing.
use Rattle.std.proofs.Common.{sym, ◌∙◌, arith}
use Rattle.std.proofs.lemmas.Result.{err_from_is_err_and}
use Rattle.stores.proofs.Turns.{all_noted, stopped}
use Rattle.stores.proofs.locate_all.Goals as goal

pub returns-in_err-places : goal.returns-in_err-places
returns-in_err-places g c =
    let p = err_from_is_err_and c.from_residual.result c.from_residual.ensures.1 in
    rw (p.1, p.2)
    (stopped _ _ _ _ _ (omega (arith, c.told-stores, c.loop-k-test.true)) c.loop-k.invariant (sym c.locate.ensures ∙ c.in_err-places.was))

pub returns : goal.returns
returns g c = all_noted _ _ _ _ (omega (arith, c.told-stores, c.loop-k-test.false)) c.loop-k.invariant
