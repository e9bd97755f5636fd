-- `fill_page`: the invariant of its loop: the values from here on are to be laid, and their lines to be taken. Assumes nothing.
use Rattle.std.proofs.Common.{◌≡◌, ◌+◌, ◌-◌, ◌*◌}
use Rattle.numbers.specs.Buffers.{laid}
use Rattle.texts.specs.Fields.{lines}
use Rattle.sheet.specs.Sheets.{slots}
use Rattle.sheet.specs.Reading.{slot_bytes, past_slots}
use Rattle.sheet_read.proofs.fill.fill_page.Given as goal

abbrev pub invariant-loop-slot : goal.invariant-loop-slot
invariant-loop-slot l =
    (past_slots l.base slots (lines l.initial.words.text.now) ≡ past_slots (l.base + 8 * l.slot) (slots - l.slot) (lines l.words.text.now))
    × (laid l.initial.bytes l.at (slot_bytes l.base slots (lines l.initial.words.text.now)) ≡ laid l.bytes (l.at + 8 * l.slot) (slot_bytes (l.base + 8 * l.slot) (slots - l.slot) (lines l.words.text.now)))
