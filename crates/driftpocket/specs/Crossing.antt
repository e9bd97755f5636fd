-- The layout of what crosses the C interface, and what a call leaves in every buffer. Assumes nothing.
use Rattle.std.specs.Prelude.{ℕ, ◌+◌, cond, List, [], ◌∷◌, length, ltb, Result, Ok, Err}
use Rattle.numbers.specs.Buffers.{laid_if}
use Rattle.answers.specs.Answer.{vector_number, refusal_number, room_number, report_of}
use Rattle.answers.specs.declared.answer.Answer.{Answer}
use Rattle.answers.specs.declared.answer.Answer.TheVariants.{Completed, Refused, Faulted}
use Rattle.answers.specs.declared.answer.Refusal.{Refusal}
use Rattle.answers.specs.declared.answer.Report.{Report}
use Rattle.processor.specs.Layout.{state_of, words_of}
use Rattle.state_words.specs.Formed.{good_state}
use Rattle.replay.specs.Run.{Run, input_of, check_by, replayed}

-- ---- layout

-- the words of a report: count, refusal, vector, error code, address
abbrev pub report_length : ℕ
report_length = 5

abbrev pub report_words : ℕ → Report → List ℕ
report_words count report = count ∷ report.refusal ∷ report.vector ∷ report.code ∷ report.address ∷ []

-- ---- the call

-- what is returned: 0, the refusal, or 256 and the vector
abbrev pub number_of : Answer → ℕ
number_of Completed = 0
number_of (Refused refusal) = refusal_number refusal
number_of (Faulted fault) = 256 + vector_number fault.vector

-- what is returned, and what every buffer holds after the call
pub record Crossing : Type 0 where
  pub number : ℕ
  pub state : List ℕ
  pub bytes : List ℕ
  pub report : List ℕ

-- a call that has run, or was refused before its first step; a report that is too short stays as it was
abbrev pub answered : List ℕ → List ℕ → List ℕ → ℕ → Answer → Crossing
answered state bytes report count answer = record { number = number_of answer; state = state; bytes = bytes; report = laid_if report 0 (report_words count (report_of answer)) }

abbrev pub ran : List ℕ → Run → Crossing
ran report r = answered (words_of r.state) r.bytes report r.count r.answer

-- refusal 8: nothing is run or written
abbrev pub unreported : List ℕ → List ℕ → List ℕ → Crossing
unreported state bytes report = record { number = room_number; state = state; bytes = bytes; report = report }

-- refused by the tests before any step, or whatever comes after them
abbrev pub by_tests : Result (Unit {0}) Refusal → List ℕ → List ℕ → List ℕ → Crossing → Crossing
by_tests (Ok x) state bytes report rest = rest
by_tests (Err refusal) state bytes report rest = answered state bytes report 0 (Refused refusal)

-- The whole call: refusals 1 to 5 and 7, where a state of another length is a state out of range; then 8, where the report is too short;
-- then the run.
unfoldable pub crossed : List ℕ → List ℕ → List ℕ → List ℕ → List ℕ → Crossing
crossed state pages bytes words report =
    by_tests (check_by pages (length bytes) (good_state state) (length words)) state bytes report
    (cond (ltb (length report) report_length) (unreported state bytes report)
    (ran report (replayed (input_of (state_of state) pages bytes words))))
