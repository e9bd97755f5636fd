-- Writing a run as a sheet (docs/RULES.md, "Run sheets"): the answer, and what the text's buffer holds after it. Assumes nothing.
use Rattle.std.specs.Prelude.{ℕ, cond, List, length, leb, Result, Ok, Err}
use Rattle.answers.specs.Answer.{refusal_number, room_number}
use Rattle.answers.specs.declared.answer.Refusal.{Refusal}
use Rattle.sheet.specs.Lent.{Buffers, tested}
use Rattle.sheet.specs.Sheets.{saved_of, text}
use Rattle.numbers.specs.Buffers.{laid}
use Rattle.sheet_write.specs.declared.text.WriteError.{WriteError}
use Rattle.sheet_write.specs.declared.text.WriteError.TheVariants.{Refused, TooLong}

-- the refusal of a write, or 0
abbrev pub write_number : Result ℕ WriteError → ℕ
write_number (Ok long) = 0
write_number (Err (Refused refusal)) = refusal_number refusal
write_number (Err (TooLong long)) = room_number

-- the answer, and what the text's buffer holds
pub record Written : Type 0 where
  pub answer : Result ℕ WriteError
  pub text : List ℕ

-- a text at the front of its buffer, where it fits; what lies past it stays
unfoldable pub printed : List ℕ → List ℕ → Written
printed whole out =
    cond (leb (length whole) (length out)) (record { answer = Ok (length whole); text = laid out 0 whole })
    (record { answer = Err (TooLong (length whole)); text = out })

abbrev pub by_test : Result (Unit {0}) Refusal → List ℕ → List ℕ → Written
by_test (Ok x) whole out = printed whole out
by_test (Err refusal) whole out = record { answer = Err (Refused refusal); text = out }

-- The refusals of a run first, but 6, then refusal 8. A refused write leaves the buffer as it was.
unfoldable pub writes : Buffers → List ℕ → Written
writes run out = by_test (tested run) (text (saved_of run)) out
