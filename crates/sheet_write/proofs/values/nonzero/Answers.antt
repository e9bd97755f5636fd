-- `nonzero` meets its contract: the chunks are the values. Assumes nothing.
use Rattle.std.proofs.Common.{rules, tests, ◌∙◌, ◌/◌, sym, subst, length}
use Rattle.std.specs.Slice.Iter.{chunks_exact_steps}
use Rattle.std.proofs.lemmas.Iterator.{YieldsList}
use Rattle.std.proofs.lemmas.Iterator.Consumers.{YieldsList-from_filter, count_from_yields_List}
use Rattle.sheet_write.proofs.ValueLaws.{pieces, values_yielded, not_zero, nonzeros_kept}
use Rattle.sheet_write.proofs.values.nonzero.Goals as goal

pub returns : goal.returns
returns c =
    let all = c.chunks_exact.ensures in
    let source = values_yielded c.chunks_exact.result c.args.bytes.now all.size all.rest in
    count_from_yields_List _ _ c.count.ensures.ran
    (YieldsList-from_filter _ not_zero (subst (λ s. YieldsList chunks_exact_steps (λ x. x.now) s (pieces (length c.args.bytes.now / 8) c.args.bytes.now)) (sym c.filter.ensures.source) source) c.filter.ensures.closure (λ x b q k. search (rules, tests)))
    ∙ nonzeros_kept _ _
