-- `make_all` meets its contract, store by store. No byte is added or lost, so addresses lead where they led at first. Assumes nothing.
use Rattle.std.proofs.Common.{sym, ◌∙◌, arith}
use Rattle.memory.proofs.Laws.{lookup_kept}
use Rattle.stores.proofs.Turns.{its_place, write_from, write_none}
use Rattle.stores.proofs.make_all.Goals as goal

pub make-requires : goal.make-requires
make-requires g c =
    rw (lookup_kept _ _ _ c.loop-k.auto.bytes) (its_place _ _ _ _ (omega (arith, c.told-stores, c.loop-k-test.true)) c.requires)

pub loop-k-preserved : goal.loop-k-preserved
loop-k-preserved g c =
    c.loop-k.invariant
    ∙ write_from _ c.args.stores.now c.loop-k.k _ (omega (arith, c.told-stores, c.loop-k-test.true))
    ∙ rw (c.make.ensures, lookup_kept _ _ _ c.loop-k.auto.bytes)

pub returns : goal.returns
returns g c = sym (c.loop-k.invariant ∙ write_none _ c.args.stores.now c.loop-k.k _ (omega (arith, c.told-stores, c.loop-k-test.false)))
