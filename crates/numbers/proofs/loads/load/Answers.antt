-- `load` meets its contract: the list holds the number. Assumes nothing.
use Rattle.std.proofs.Common.{◌∙◌}
use Rattle.numbers.proofs.Bytes.{held_four, held_eight}
use Rattle.numbers.proofs.loads.load.Goals as goal

pub returns-in_ok-four-in-Four : goal.returns-in_ok-four-in-Four
returns-in_ok-four-in-Four c =
    let part = c.in_ok-rest.ensures.lookup.0 in
    rw c.in-Four.is (held_four _ _ _ part.2 part.3 _ _ c.in_ok-four-in-Four.ensures.cases (c.from.ensures ∙ c.from_le_bytes.ensures))

pub returns-in_ok-eight-in-Eight : goal.returns-in_ok-eight-in-Eight
returns-in_ok-eight-in-Eight c =
    let part = c.in_ok-rest.ensures.lookup.0 in
    rw c.in-Eight.is (held_eight _ _ _ part.2 part.3 _ _ c.in_ok-eight-in-Eight.ensures.cases c.from_le_bytes-in-Eight.ensures)
