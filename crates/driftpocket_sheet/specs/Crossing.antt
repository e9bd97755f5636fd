-- What the two calls on sheets return through the C interface (include/driftpocket.h), and what every buffer holds after them. Assumes
-- nothing.
use Rattle.std.specs.Prelude.{ℕ, cond, List, [], ◌∷◌, length, eqb, ltb, Result, Ok, Err}
use Rattle.numbers.specs.Buffers.{laid}
use Rattle.answers.specs.Answer.{room_number}
use Rattle.sheet.specs.Lent.{Buffers}
use Rattle.sheet_read.specs.Reads.{read_number, Read, reads}
use Rattle.sheet_read.specs.declared.buffers.Sizes.{Sizes}
use Rattle.sheet_read.specs.declared.buffers.ReadError.{ReadError}
use Rattle.sheet_read.specs.declared.buffers.ReadError.TheVariants.{NoSheet, Refused as ReadRefused, TooLong as ReadTooLong}
use Rattle.sheet_write.specs.Writes.{write_number, Written, writes}
use Rattle.sheet_write.specs.declared.text.WriteError.{WriteError}
use Rattle.sheet_write.specs.declared.text.WriteError.TheVariants.{Refused as WriteRefused, TooLong as WriteTooLong}

-- what is returned with a report that is too short: the refusal, and 8 where there is none
abbrev pub or_no_room : ℕ → ℕ
or_no_room number = cond (eqb number 0) room_number number

-- ---- reports

-- how many pages, bytes and words there are, or are needed
abbrev pub size_words : Sizes → List ℕ
size_words sizes = sizes.pages ∷ sizes.bytes ∷ sizes.words ∷ []

-- what a read's report says behind the refusal: a line, and the three sizes
abbrev pub read_facts : Result Sizes ReadError → List ℕ
read_facts (Ok sizes) = 0 ∷ size_words sizes
read_facts (Err (NoSheet line)) = line ∷ 0 ∷ 0 ∷ 0 ∷ []
read_facts (Err (ReadRefused refusal)) = 0 ∷ 0 ∷ 0 ∷ 0 ∷ []
read_facts (Err (ReadTooLong sizes)) = 0 ∷ size_words sizes

abbrev pub read_report : Result Sizes ReadError → List ℕ
read_report answer = read_number answer ∷ read_facts answer

-- and a write's: how long the text is, or would be
abbrev pub write_fact : Result ℕ WriteError → ℕ
write_fact (Ok long) = long
write_fact (Err (WriteRefused refusal)) = 0
write_fact (Err (WriteTooLong long)) = long

abbrev pub write_report : Result ℕ WriteError → List ℕ
write_report answer = write_number answer ∷ write_fact answer ∷ []

-- the words of each report
abbrev pub read_words : ℕ
read_words = 5

abbrev pub write_words : ℕ
write_words = 2

-- ---- the calls

-- buffers without room
abbrev pub nowhere : Buffers
nowhere = record { state = []; pages = []; bytes = []; words = [] }

-- what is returned, and what the buffers and the report hold
pub record ReadCrossing : Type 0 where
  pub number : ℕ
  pub buffers : Buffers
  pub report : List ℕ

abbrev pub read_by : Read → List ℕ → ReadCrossing
read_by r report = record { number = read_number r.answer; buffers = r.buffers; report = laid report 0 (read_report r.answer) }

-- A report that is too short comes last of all: it is refused where the read is not. Nothing is written then.
unfoldable pub crossed_read : List ℕ → Buffers → List ℕ → ReadCrossing
crossed_read text lent report =
    cond (ltb (length report) read_words) (record { number = or_no_room (read_number (reads text lent).answer); buffers = lent; report = report })
    (read_by (reads text lent) report)

pub record WriteCrossing : Type 0 where
  pub number : ℕ
  pub text : List ℕ
  pub report : List ℕ

abbrev pub written_by : Written → List ℕ → WriteCrossing
written_by w report = record { number = write_number w.answer; text = w.text; report = laid report 0 (write_report w.answer) }

-- likewise
unfoldable pub crossed_write : Buffers → List ℕ → List ℕ → WriteCrossing
crossed_write run text report =
    cond (ltb (length report) write_words) (record { number = or_no_room (write_number (writes run text).answer); text = text; report = report })
    (written_by (writes run text) report)
