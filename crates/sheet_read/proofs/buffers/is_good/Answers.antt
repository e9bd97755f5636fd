-- `is_good` meets its contract: the fields fill the array. Assumes nothing.
use Rattle.std.proofs.Common.{ap, sym, ◌∙◌}
use Rattle.numbers.proofs.Laws.{laid_whole}
use Rattle.state_words.specs.Formed.{good_state}
use Rattle.sheet.specs.Lines.{field_count}
use Rattle.sheet.proofs.LineLaws.{values_count}
use Rattle.sheet_read.proofs.buffers.is_good.Goals as goal

pub returns : goal.returns
returns c =
    let long = values_count c.args.state.kind _ ∙ ap field_count c.requires in
    c.good_state.ensures ∙ ap good_state (c.fill.ensures ∙ laid_whole _ _ (sym long))
