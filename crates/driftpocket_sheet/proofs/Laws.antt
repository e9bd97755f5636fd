-- With a report that is too short a call's number does not depend on the buffers lent for its result, so that empty ones will do. And how
-- long a report is. Assumes nothing.
use Rattle.std.proofs.Common.{◌≡◌, ℕ, ◌<◌, ◌≤◌, Bool, true, false, cond, leb, List, [], length, Ok, Err, Result, sym, refl, ap, ◌∙◌, arith, lt-ltb}
use Rattle.numbers.specs.Buffers.{laid, laid_if}
use Rattle.numbers.proofs.Laws.{laid_if_lem}
use Rattle.answers.specs.Answer.{room_number}
use Rattle.answers.specs.declared.answer.Refusal.{Refusal}
use Rattle.sheet.specs.Lent.{Buffers, tested}
use Rattle.sheet.specs.Sheets.{saved_of, buffers_of, text as text_of}
use Rattle.sheet.specs.Reading.{Parsed, sheet, no_sheet, parsed}
use Rattle.sheet_read.specs.Reads.{read_number, Read, by_test as read_by_test, by_text, delivered, fits, reads}
use Rattle.sheet_read.specs.declared.buffers.Sizes.{Sizes}
use Rattle.sheet_read.specs.declared.buffers.ReadError.{ReadError}
use Rattle.sheet_read.specs.declared.buffers.ReadError.TheVariants.{NoSheet, Refused, TooLong}
use Rattle.sheet_write.specs.Writes.{write_number, Written, by_test as write_by_test, printed, writes}
use Rattle.sheet_write.specs.declared.text.WriteError.{WriteError}
use Rattle.driftpocket_sheet.specs.Crossing.{or_no_room, nowhere, read_report, write_report, read_words, write_words, ReadCrossing, crossed_read, WriteCrossing, crossed_write}

-- what holds of both ways holds
either : {A : Type 0} (p : Bool) (a b : A) (P : A → Type 0) → P a → P b → P (cond p a b)
either true a b P then else = then
either false a b P then else = else

any_buffers : (text : List ℕ) (lent other : Buffers) → or_no_room (read_number (reads text lent).answer) ≡ or_no_room (read_number (reads text other).answer)
unfolding reads
any_buffers text lent other = parsed_so (parsed text)
  where
    -- done, or too long
    passed_so : (run given : Buffers) → or_no_room (read_number (delivered run given).answer) ≡ room_number
    passed_so run given = either (fits run given) _ _ (λ (r : Read). or_no_room (read_number r.answer) ≡ room_number) refl refl

    tested_so : (run : Buffers) (t : Result (Unit {0}) Refusal) → or_no_room (read_number (read_by_test t run lent).answer) ≡ or_no_room (read_number (read_by_test t run other).answer)
    tested_so run (Ok x) = passed_so run lent ∙ sym (passed_so run other)
    tested_so run (Err refusal) = refl

    parsed_so : (p : Parsed) → or_no_room (read_number (by_text p lent).answer) ≡ or_no_room (read_number (by_text p other).answer)
    parsed_so (sheet s) = tested_so (buffers_of s) (tested (buffers_of s))
    parsed_so (no_sheet line) = refl

any_text : (run : Buffers) (out other : List ℕ) → or_no_room (write_number (writes run out).answer) ≡ or_no_room (write_number (writes run other).answer)
unfolding writes printed
any_text run out other = tested_so (tested run)
  where
    -- done, or too long
    passed_so : (whole given : List ℕ) → or_no_room (write_number (printed whole given).answer) ≡ room_number
    passed_so whole given = either (leb (length whole) (length given)) _ _ (λ (w : Written). or_no_room (write_number w.answer) ≡ room_number) refl refl

    tested_so : (t : Result (Unit {0}) Refusal) → or_no_room (write_number (write_by_test t (text_of (saved_of run)) out).answer) ≡ or_no_room (write_number (write_by_test t (text_of (saved_of run)) other).answer)
    tested_so (Ok x) = passed_so (text_of (saved_of run)) out ∙ sym (passed_so (text_of (saved_of run)) other)
    tested_so (Err refusal) = refl

-- ---- a report that is too short

pub read_short : (text : List ℕ) (lent : Buffers) (report : List ℕ) → length report < read_words
    → record { number = or_no_room (read_number (reads text nowhere).answer); buffers = lent; report = report }
    ≡ crossed_read text lent report
unfolding crossed_read
read_short text lent report short = rw (lt-ltb _ _ short) (ap returned (any_buffers text nowhere lent))
  where
    returned : ℕ → ReadCrossing
    returned number = record { number = number; buffers = lent; report = report }

pub write_short : (run : Buffers) (text report : List ℕ) → length report < write_words
    → record { number = or_no_room (write_number (writes run []).answer); text = text; report = report } ≡ crossed_write run text report
unfolding crossed_write
write_short run text report short = rw (lt-ltb _ _ short) (ap returned (any_text run [] text))
  where
    returned : ℕ → WriteCrossing
    returned number = record { number = number; text = text; report = report }

-- ---- a report with room for all its words

read_long : (answer : Result Sizes ReadError) → length (read_report answer) ≡ read_words
read_long (Ok sizes) = refl
read_long (Err (NoSheet line)) = refl
read_long (Err (Refused refusal)) = refl
read_long (Err (TooLong sizes)) = refl

pub read_room : (report : List ℕ) (answer : Result Sizes ReadError) → read_words ≤ length report → laid_if report 0 (read_report answer) ≡ laid report 0 (read_report answer)
read_room report answer room = let long = read_long answer in laid_if_lem report 0 (read_report answer) (omega arith)

pub write_room : (report : List ℕ) (answer : Result ℕ WriteError) → write_words ≤ length report → laid_if report 0 (write_report answer) ≡ laid report 0 (write_report answer)
write_room report answer room = laid_if_lem report 0 (write_report answer) (omega arith)
