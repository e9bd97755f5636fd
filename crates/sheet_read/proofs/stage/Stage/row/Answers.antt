-- `Stage::row` meets its contract: such a line stands there. Assumes nothing.
use Rattle.std.proofs.Common.{rules, arith, ◌*◌, ◌≤◌, length}
use Rattle.sheet_read.proofs.Leads.{place_room, lead_at, rest_whole}
use Rattle.sheet_read.proofs.stage.Stage.row.Goals.{After-width}
use Rattle.sheet_read.proofs.stage.Stage.row.Goals as goal

room : (c : After-width) → c.width.result * c.args.k ≤ length c.args.self.text.now
room c = rw c.width.ensures (place_room c.args.self.kind c.args.k c.args.self.count c.args.self.text.now (omega arith) c.args.self.stands)

pub overflow_mul-result : goal.overflow_mul-result
overflow_mul-result c = omega (arith, room c)

pub slice_bounds-result-count : goal.slice_bounds-result-count
slice_bounds-result-count c = room c

pub slice_bounds-result-start : goal.slice_bounds-result-start
slice_bounds-result-start c = search (rules, room c)

pub invariant_of-result : goal.invariant_of-result
invariant_of-result c =
    record { begun = rw (rest_whole, c.width.ensures) (lead_at c.args.self.kind c.args.k c.args.self.count c.args.self.text.now c.requires c.args.self.stands) }
