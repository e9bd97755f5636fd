-- Refusal 8 is given exactly where a result does not fit, and after every other refusal. Assumes nothing.
use Rattle.std.proofs.Common.{◌≡◌, ℕ, Bool, true, false, leb, List, length, Ok, Err, Result, refl, le-leb, leb-true}
use borrow.Author.Tests.{lt-leb}
use Rattle.answers.specs.Answer.{room_number}
use Rattle.answers.specs.declared.answer.Refusal.{Refusal}
use Rattle.texts.proofs.DigitLaws.{both}
use Rattle.sheet.specs.Lent.{Buffers, tested}
use Rattle.sheet.specs.Sheets.{buffers_of, saved_of, text}
use Rattle.sheet.specs.Reading.{Parsed, sheet, no_sheet, parsed}
use Rattle.sheet_read.specs.Reads.{read_number, sizes_of, delivered, by_test, by_text, fits, reads}
use Rattle.sheet_read.proofs.Rooms.{within_parts}
use Rattle.sheet_write.specs.Writes.{write_number, by_test as written_by_test, printed, writes}
use Rattle.sheet_claims.specs.LentBuffers.{Room, ReadRoom, WriteRoom, ReadRoomLast, WriteRoomLast}

-- ---- exactly where a result does not fit

fits_room : (run lent : Buffers) → fits run lent ≡ true → Room run lent
unfolding fits
fits_room run lent h =
    let parts = both (leb (length run.state) (length lent.state)) _ h in
    let rest = within_parts (sizes_of run) (sizes_of lent) parts.1 in
    record { state = leb-true _ _ parts.0; pages = rest.0; bytes = rest.1; words = rest.2 }

room_fits : (run lent : Buffers) → Room run lent → fits run lent ≡ true
unfolding fits
room_fits run lent room = rw (le-leb _ _ room.state, le-leb _ _ room.pages, le-leb _ _ room.bytes, le-leb _ _ room.words)

pub read_room : ReadRoom
unfolding reads
read_room t s lent from passed = (λ room. rw (from, passed, room_fits (buffers_of s) lent room), λ none. rw (from, passed) (go (fits (buffers_of s) lent) refl none))
  where
    go : (b : Bool) → fits (buffers_of s) lent ≡ b → (Room (buffers_of s) lent → ⊥) → read_number (delivered (buffers_of s) lent).answer ≡ room_number
    go true e none = absurd (none (fits_room (buffers_of s) lent e))
    go false e none = rw e

pub write_room : WriteRoom
unfolding writes printed
write_room run out passed = (λ fit. rw (passed, le-leb _ _ fit), λ short. rw (passed, lt-leb _ _ short))

-- ---- after every other refusal

-- a run that is delivered is done, or gets 8
delivered_none : (run lent : Buffers) → (read_number (delivered run lent).answer ≡ 0 → ⊥) → (read_number (delivered run lent).answer ≡ room_number → ⊥) → ⊥
delivered_none run lent done long = go (fits run lent) refl
  where
    go : (b : Bool) → fits run lent ≡ b → ⊥
    go true e = done (rw e)
    go false e = long (rw e)

pub read_room_last : ReadRoomLast
unfolding reads
read_room_last t lent other done long = by_text_lem (parsed t) done long
  where
    by_test_lem : (found : Result (Unit {0}) Refusal) (run : Buffers) → (read_number (by_test found run lent).answer ≡ 0 → ⊥) → (read_number (by_test found run lent).answer ≡ room_number → ⊥)
        → (by_test found run other).answer ≡ (by_test found run lent).answer
    by_test_lem (Ok x) run done long = absurd (delivered_none run lent done long)
    by_test_lem (Err refusal) run done long = refl

    by_text_lem : (p : Parsed) → (read_number (by_text p lent).answer ≡ 0 → ⊥) → (read_number (by_text p lent).answer ≡ room_number → ⊥) → (by_text p other).answer ≡ (by_text p lent).answer
    by_text_lem (sheet s) done long = by_test_lem (tested (buffers_of s)) (buffers_of s) done long
    by_text_lem (no_sheet line) done long = refl

printed_none : (whole out : List ℕ) → (write_number (printed whole out).answer ≡ 0 → ⊥) → (write_number (printed whole out).answer ≡ room_number → ⊥) → ⊥
unfolding printed
printed_none whole out done long = go (leb (length whole) (length out)) refl
  where
    go : (b : Bool) → leb (length whole) (length out) ≡ b → ⊥
    go true e = done (rw e)
    go false e = long (rw e)

pub write_room_last : WriteRoomLast
unfolding writes
write_room_last run out other done long = by_test_lem (tested run) done long
  where
    by_test_lem : (found : Result (Unit {0}) Refusal) → (write_number (written_by_test found (text (saved_of run)) out).answer ≡ 0 → ⊥)
        → (write_number (written_by_test found (text (saved_of run)) out).answer ≡ room_number → ⊥)
        → (written_by_test found (text (saved_of run)) other).answer ≡ (written_by_test found (text (saved_of run)) out).answer
    by_test_lem (Ok x) done long = absurd (printed_none (text (saved_of run)) out done long)
    by_test_lem (Err refusal) done long = refl
