-- `Stage::behind` meets its contract: the lines lie within the text. Assumes nothing.
use Rattle.std.proofs.Common.{rules, arith, ◌*◌, ◌≤◌, length}
use Rattle.sheet_read.proofs.Leads.{lead_room}
use Rattle.sheet_read.proofs.stage.Stage.behind.Goals.{After-width}
use Rattle.sheet_read.proofs.stage.Stage.behind.Goals as goal

room : (c : After-width) → c.width.result * c.args.self.count ≤ length c.args.self.text.now
room c = rw c.width.ensures (lead_room c.args.self.kind c.args.self.count c.args.self.text.now c.args.self.stands)

pub overflow_mul-result : goal.overflow_mul-result
overflow_mul-result c = omega (arith, room c)

pub slice_bounds-result-count : goal.slice_bounds-result-count
slice_bounds-result-count c = room c

pub slice_bounds-result-start : goal.slice_bounds-result-start
slice_bounds-result-start c = search (rules, room c)
