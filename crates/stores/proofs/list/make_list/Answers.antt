-- `make_list` meets its contract, store by store: each can be done, since all can. No byte is added or lost, so addresses lead where
-- they led at first. Assumes nothing.
use Rattle.std.proofs.Common.{sym, ◌∙◌}
use Rattle.memory.proofs.Laws.{lookup_kept, store_done}
use Rattle.stores.proofs.Turns.{each_done, write_from, write_none}
use Rattle.stores.proofs.list.make_list.Goals as goal

pub loop-store-preserved : goal.loop-store-preserved
loop-store-preserved c =
    c.loop-store.invariant
    ∙ write_from _ c.args.stores.now c.loop-store.store-index _ c.loop-store-test.true
    ∙ rw (c.store.ensures.bytes_after, lookup_kept _ _ _ c.loop-store.auto.bytes, store_done _ _ _ _ (each_done _ _ _ c.loop-store-test.true c.requires))

pub returns : goal.returns
returns c = sym (c.loop-store.invariant ∙ write_none _ c.args.stores.now c.loop-store.store-index _ c.loop-store-test.false)
