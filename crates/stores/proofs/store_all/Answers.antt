-- `store_all` meets its contract: what the places tell, and then what the stores leave. Assumes nothing.
use Rattle.std.proofs.lemmas.Result.{err_from_is_err_and}
use Rattle.stores.proofs.Turns.{tried}
use Rattle.stores.proofs.store_all.Goals as goal

pub returns-in_err-places-clause-value : goal.returns-in_err-places-clause-value
returns-in_err-places-clause-value g c =
    let p = err_from_is_err_and c.from_residual.result c.from_residual.ensures.1 in
    rw (p.1, p.2, tried _ _, ← c.locate_all.ensures, c.in_err-places.was)

pub returns-clause-value : goal.returns-clause-value
returns-clause-value g c = rw (tried _ _, ← c.locate_all.ensures, c.in_ok-places.was)
