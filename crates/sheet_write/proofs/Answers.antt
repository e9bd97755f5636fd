-- The answers of writing, from what the code found. Assumes nothing.
use Rattle.std.proofs.Common.{ℕ, ◌<◌, ◌≤◌, ◌≡◌, List, length, Ok, Err}
use borrow.Author.Tests.{le-leb, lt-leb}
use Rattle.answers.specs.declared.answer.Refusal.{Refusal}
use Rattle.numbers.specs.Buffers.{laid}
use Rattle.sheet.specs.Lent.{Buffers, tested}
use Rattle.sheet.specs.Sheets.{text, saved_of}
use Rattle.sheet_write.specs.Writes.{Written, printed, writes}
use Rattle.sheet_write.specs.declared.text.WriteError.TheVariants.{Refused, TooLong}

module _ (whole out : List ℕ) (long : ℕ) (long-is : long ≡ length whole) where
  pub too_long : length out < long → ◌≡◌ {A = Written} (record { answer = Err (TooLong long); text = out }) (printed whole out)
  unfolding printed
  too_long h = rw (long-is, lt-leb (length whole) (length out) (rw (← long-is) h))

  pub done : (after : List ℕ) → long ≤ length out → after ≡ laid out 0 whole → ◌≡◌ {A = Written} (record { answer = Ok long; text = after }) (printed whole out)
  unfolding printed
  done after h after_is = rw (after_is, long-is, le-leb (length whole) (length out) (rw (← long-is) h))

module _ (run : Buffers) (out : List ℕ) where
  pub refused : (refusal : Refusal) → tested run ≡ Err refusal → ◌≡◌ {A = Written} (record { answer = Err (Refused refusal); text = out }) (writes run out)
  unfolding writes
  refused refusal e = rw e

  pub passed : tested run ≡ Ok tt → printed (text (saved_of run)) out ≡ writes run out
  unfolding writes
  passed e = rw e
