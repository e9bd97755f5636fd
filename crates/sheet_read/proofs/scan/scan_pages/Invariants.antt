-- `scan_pages`: the invariant and the measure of its loop. Assumes nothing.
use Rattle.std.proofs.Common.{◌≡◌, ◌+◌, ◌≤◌, length}
use Rattle.texts.specs.Fields.{lines}
use Rattle.sheet.specs.Reading.{page_count}
use Rattle.sheet_read.proofs.scan.scan_pages.Given as goal

abbrev pub invariant-loop-row : goal.invariant-loop-row
invariant-loop-row l = (page_count 0 (lines l.text) ≡ l.count + page_count l.least (lines l.rest)) × (l.count + length l.rest ≤ length l.text)

abbrev pub decreases-loop-row : goal.decreases-loop-row
decreases-loop-row l = length l.rest
