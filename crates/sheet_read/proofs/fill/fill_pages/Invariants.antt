-- `fill_pages`: the invariant of its loop: the pages from the k-th on are to be laid. Assumes nothing.
use Rattle.std.proofs.Common.{◌≡◌, ◌*◌}
use Rattle.pages.specs.Pages.{page_bytes}
use Rattle.numbers.specs.Buffers.{laid}
use Rattle.texts.specs.Fields.{lines}
use Rattle.sheet.specs.Sheets.{bytes_of}
use Rattle.sheet.specs.Reading.{pages_in}
use Rattle.sheet_read.specs.Scan.{numbers_in, behind}
use Rattle.sheet_read.proofs.Pages.{entries_from}
use Rattle.sheet_read.proofs.fill.fill_pages.Given as goal

abbrev pub invariant-loop-k : goal.invariant-loop-k
invariant-loop-k l =
    laid l.initial.bytes 0 (bytes_of (pages_in (numbers_in l.pages) (behind l.pages)))
    ≡ laid l.bytes (page_bytes * l.k) (bytes_of (pages_in (entries_from l.pages l.k) (lines l.words.text.now)))
