-- `store_within` meets its contract: bytes set in the page that is lent on are set in the whole. Assumes nothing.
use Rattle.numbers.proofs.Laws.{lies_inside, put_inside}
use Rattle.memory.proofs.PageParts.{on_page_lem, store_part}
use Rattle.memory.proofs.one_page.store_within.Goals as goal

pub returns : goal.returns
returns c =
    let on = on_page_lem _ _ _ c.requires in
    rw (c.store.ensures.bytes_after, put_inside _ _ _ _ (lies_inside _ _ _ on)) (store_part _ _ _ _ c.requires.inside)
