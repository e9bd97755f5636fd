-- `Words::skip_page`: the invariant of its loop: the lines of the values from here on are to be taken. Assumes nothing.
use Rattle.std.proofs.Common.{◌≡◌, ◌+◌, ◌-◌, ◌*◌}
use Rattle.texts.specs.Fields.{lines}
use Rattle.sheet.specs.Sheets.{slots}
use Rattle.sheet.specs.Reading.{past_slots}
use Rattle.sheet_read.specs.Scan.{slot_count}
use Rattle.sheet_read.proofs.words.Words.skip_page.Given as goal

abbrev pub invariant-loop-slot : goal.invariant-loop-slot
invariant-loop-slot l =
    (past_slots l.base slots (lines l.initial.self.text.now) ≡ past_slots (l.base + 8 * l.slot) (slots - l.slot) (lines l.self.text.now))
    × (l.initial.self.count + slot_count l.base slots (lines l.initial.self.text.now) ≡ l.self.count + slot_count (l.base + 8 * l.slot) (slots - l.slot) (lines l.self.text.now))
