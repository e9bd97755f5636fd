-- `scan_plain`: the invariant and the measure of its loop. Assumes nothing.
use Rattle.std.proofs.Common.{◌≡◌, ◌+◌, ◌≤◌, length}
use Rattle.texts.specs.Fields.{lines}
use Rattle.sheet.specs.Reading.{plain_count}
use Rattle.sheet_read.proofs.scan.scan_plain.Given as goal

abbrev pub invariant-loop-row : goal.invariant-loop-row
invariant-loop-row l = (plain_count l.kind (lines l.text) ≡ l.count + plain_count l.kind (lines l.rest)) × (l.count + length l.rest ≤ length l.text)

abbrev pub decreases-loop-row : goal.decreases-loop-row
decreases-loop-row l = length l.rest
