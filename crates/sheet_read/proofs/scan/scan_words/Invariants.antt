-- `scan_words`: the invariant of its loop: the word lines of the pages from the k-th on are to be taken. Assumes nothing.
use Rattle.std.proofs.Common.{◌≡◌, ◌+◌}
use Rattle.texts.specs.Fields.{lines}
use Rattle.sheet.specs.Reading.{past_pages}
use Rattle.sheet_read.specs.Scan.{numbers_in, behind, word_count}
use Rattle.sheet_read.proofs.Pages.{entries_from}
use Rattle.sheet_read.proofs.scan.scan_words.Given as goal

abbrev pub invariant-loop-k : goal.invariant-loop-k
invariant-loop-k l =
    (past_pages (numbers_in l.pages) (behind l.pages) ≡ past_pages (entries_from l.pages l.k) (lines l.words.text.now))
    × (word_count (numbers_in l.pages) (behind l.pages) ≡ l.words.count + word_count (entries_from l.pages l.k) (lines l.words.text.now))
