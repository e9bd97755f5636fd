-- `Row::behind` meets its contract: the line lies within the text. Assumes nothing.
use Rattle.std.proofs.Common.{rules, ◌≤◌, length}
use Rattle.sheet.proofs.LineLaws.{line_room}
use Rattle.sheet_read.proofs.row.Row.behind.Goals.{After-width}
use Rattle.sheet_read.proofs.row.Row.behind.Goals as goal

room : (c : After-width) → c.width.result ≤ length c.args.self.text.now
room c = rw c.width.ensures (line_room c.args.self.kind c.args.self.text.now c.args.self.begun)

pub slice_bounds-result-count : goal.slice_bounds-result-count
slice_bounds-result-count c = room c

pub slice_bounds-result-start : goal.slice_bounds-result-start
slice_bounds-result-start c = search (rules, room c)
