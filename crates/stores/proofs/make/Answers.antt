-- `make` meets its contract: a store that can be done leaves its bytes, at its place or byte by byte. Assumes nothing.
use Rattle.std.proofs.Common.{refl, sym, ◌∙◌, ap, None, Ok}
use Rattle.memory.proofs.Laws.{told, store_done, placed_written}
use Rattle.stores.proofs.make.Goals as goal

pub returns-in-Some : goal.returns-in-Some
returns-in-Some c = c.store_at.ensures.bytes_after ∙ placed_written _ _ _ _ (c.requires ∙ ap Ok c.in-Some.is) _ _ refl

pub returns-in-None : goal.returns-in-None
returns-in-None c = c.store.ensures.bytes_after ∙ store_done _ _ _ _ (told _ _ (Ok None) (sym (c.requires ∙ ap Ok c.in-None.is)))
