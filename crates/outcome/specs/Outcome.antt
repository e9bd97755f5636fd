-- What the program writes for a text (docs/RULES.md, "The outcome of a sheet"). Assumes nothing.
use Rattle.std.specs.Prelude.{ℕ, ◌*◌, cond, List, [], ◌∷◌, ◌++◌, length, drop, ltb, Result, Ok, Err}
use Rattle.answers.specs.Answer.{refusal_number, room_number, sheet_number, report_of}
use Rattle.answers.specs.declared.answer.Answer.{Answer}
use Rattle.answers.specs.declared.answer.Refusal.{Refusal}
use Rattle.answers.specs.declared.answer.Report.{Report}
use Rattle.processor.specs.Layout.{state_of, words_of}
use Rattle.instructions.specs.Instruction.{instruction_words}
use Rattle.replay.specs.Run.{Input, input_of, Run, replayed}
use Rattle.texts.specs.Fields.{line_of}
use Rattle.sheet.specs.Lent.{Buffers, tested}
use Rattle.sheet.specs.Sheets.{saved_of, buffers_of, text}
use Rattle.sheet.specs.Reading.{Parsed, sheet, no_sheet, parsed}
use Rattle.sheet_claims.specs.LentBuffers.{most_text}

-- ---- lines that no sheet has, in the form of its lines

-- "answer" and "refused"
abbrev pub answer_word : List ℕ
answer_word = 97 ∷ 110 ∷ 115 ∷ 119 ∷ 101 ∷ 114 ∷ []

abbrev pub refused_word : List ℕ
refused_word = 114 ∷ 101 ∷ 102 ∷ 117 ∷ 115 ∷ 101 ∷ 100 ∷ []

-- how a run ended: count, refusal, vector, error code, address
abbrev pub answer_numbers : ℕ → Report → List ℕ
answer_numbers count report = count ∷ report.refusal ∷ report.vector ∷ report.code ∷ report.address ∷ []

unfoldable pub answer_line : ℕ → Answer → List ℕ
answer_line count answer = line_of answer_word (answer_numbers count (report_of answer))

-- a text that is not run: the refusal, and the line of refusal 9 or 0
unfoldable pub refused_line : ℕ → ℕ → List ℕ
refused_line refusal row = line_of refused_word (refusal ∷ row ∷ [])

-- ---- a run

-- the run that a sheet says
abbrev pub input_from : Buffers → Input
input_from run = input_of (state_of run.state) run.pages run.bytes run.words

-- the run that is left: state and pages as the completed instructions left them, and the instructions that did not complete
abbrev pub left_of : Input → Run → Buffers
left_of given r = record { state = words_of r.state; pages = given.pages; bytes = r.bytes; words = drop (instruction_words * r.count) given.words }

-- the answer, and the sheet of what is left
unfoldable pub answered : Input → List ℕ
answered given = answer_line (replayed given).count (replayed given).answer ++ text (saved_of (left_of given (replayed given)))

-- ---- any text

-- refusals 1, 2, 3, 5 and 7, or the run
abbrev pub by_test : Result (Unit {0}) Refusal → Buffers → List ℕ
by_test (Ok passed) run = answered (input_from run)
by_test (Err refusal) run = refused_line (refusal_number refusal) 0

-- refusal 9 before them
abbrev pub by_text : Parsed → List ℕ
by_text (sheet s) = by_test (tested (buffers_of s)) (buffers_of s)
by_text (no_sheet row) = refused_line sheet_number row

-- the longest text that is read: the sheet of every run that is not refused has room in it
abbrev pub text_limit : ℕ
text_limit = most_text

-- what is written: a longer text is refusal 8, whatever it holds
unfoldable pub outcome : List ℕ → List ℕ
outcome t = cond (ltb text_limit (length t)) (refused_line room_number 0) (by_text (parsed t))
