-- `Stage::fill`: the invariant of its loop: the numbers from the k-th line on are to be laid. Assumes nothing.
use Rattle.std.proofs.Common.{◌≡◌, ◌*◌}
use Rattle.numbers.specs.Buffers.{laid}
use Rattle.sheet.specs.Lines.{field_count}
use Rattle.sheet_read.specs.Scan.{numbers_in}
use Rattle.sheet_read.proofs.Rows.{numbers_from}
use Rattle.sheet_read.proofs.stage.Stage.fill.Given as goal

abbrev pub invariant-loop-k : goal.invariant-loop-k
invariant-loop-k l = laid l.initial.out 0 (numbers_in l.self) ≡ laid l.out (field_count l.self.kind * l.k) (numbers_from l.self.kind l.self.text.now l.self.count l.k)
