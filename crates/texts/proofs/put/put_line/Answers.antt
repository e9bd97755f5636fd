-- `put_line` meets its contract: where the line fits, its three pieces stand one behind the other. Assumes nothing.
use Rattle.std.proofs.Common.{sym, ◌∙◌}
use Rattle.texts.proofs.Turns.{line_put}
use Rattle.texts.proofs.put.put_line.Goals as goal

pub returns-clause-put : goal.returns-clause-put
returns-clause-put c =
    let fits = sym c.has_room.ensures ∙ c.if-not-has_room.false in
    line_put _ _ _ _ _ _ _ fits c.copy.ensures.out_after c.put_fields.ensures c.copy-2.ensures.out_after
