-- `load_within` meets its contract: bytes of the page that is handed on are bytes of the whole, and all there. Assumes nothing.
use Rattle.numbers.specs.Numbers.{held}
use Rattle.numbers.proofs.Laws.{lies_inside}
use Rattle.memory.proofs.PageParts.{on_page_lem, load_part}
use Rattle.memory.proofs.one_page.load_within.Goals as goal

pub returns : goal.returns
unfolding held
returns c =
    rw (c.unwrap_or.ensures, c.load.ensures, lies_inside _ _ _ (on_page_lem _ _ _ c.requires)) (load_part _ _ _ c.requires.inside)
