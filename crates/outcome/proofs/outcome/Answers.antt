-- `outcome` meets its contract, by what the reader answers. Assumes nothing.
use Rattle.std.proofs.Common.{◌≡◌, Result, sym, refl, ◌∙◌, subst, length-take-le, lt-ltb}
use Rattle.state_words.proofs.Laws.{formed_whole}
use Rattle.sheet.specs.Lent.{Buffers}
use Rattle.sheet_read.specs.declared.buffers.Sizes.{Sizes}
use Rattle.sheet_read.specs.declared.buffers.ReadError.{ReadError}
use Rattle.outcome.specs.Outcome.{outcome}
use Rattle.outcome.proofs.TextLaws.{Told, told, no_state_never}
use Rattle.outcome.proofs.outcome.Goals.{After-read}
use Rattle.outcome.proofs.outcome.Goals as goal

-- the buffers, as the reader left them
abbrev held : After-read → Buffers
held c = record { state = c.read.new.state; pages = c.read.new.pages; bytes = c.read.new.bytes; words = c.read.new.words }

-- what the reader's answer says
answer : (c : After-read) (r : Result Sizes ReadError) → c.read.result ≡ r → Told c.args.text.now r (held c)
answer c r given =
    subst (λ (q : Result Sizes ReadError). Told c.args.text.now q (held c)) given (told _ c.if-text-gt-TEXT_LIMIT.false _ (record {
      state = refl;
      pages = refl;
      bytes = refl;
      words = refl;
    }) _ c.read.ensures)

pub returns-then-text-gt-TEXT_LIMIT : goal.returns-then-text-gt-TEXT_LIMIT
unfolding outcome
returns-then-text-gt-TEXT_LIMIT c =
    rw (lt-ltb _ _ c.if-text-gt-TEXT_LIMIT.true) (c.refuse.ensures _)

pub returns-in_default : goal.returns-in_default
returns-in_default c =
    absurd (no_state_never _ (answer (goal.at.returns-in_default c).After-read _ c.in-Ok.is).good (sym c.state_of.ensures ∙ c.in_default.is))

pub slice_bounds-pages-end : goal.slice_bounds-pages-end
slice_bounds-pages-end c = (answer (goal.at.slice_bounds-pages-end c).After-read _ c.in-Ok.is).pages_in_lem

pub slice_bounds-bytes-end : goal.slice_bounds-bytes-end
slice_bounds-bytes-end c = (answer (goal.at.slice_bounds-bytes-end c).After-read _ c.in-Ok.is).bytes_in_lem

pub slice_bounds-words-end : goal.slice_bounds-words-end
slice_bounds-words-end c = (answer (goal.at.slice_bounds-words-end c).After-read _ c.in-Ok.is).words_in

pub slice_bounds-run-end : goal.slice_bounds-run-end
slice_bounds-run-end c = sym (length-take-le _ _ (answer (goal.at.slice_bounds-run-end c).After-read _ c.in-Ok.is).pages_in_lem)

pub slice_bounds-run-end-in-Ok : goal.slice_bounds-run-end-in-Ok
slice_bounds-run-end-in-Ok c = sym (length-take-le _ _ (answer (goal.at.slice_bounds-run-end-in-Ok c).After-read _ c.in-Ok.is).bytes_in_lem)

pub slice_bounds-run-end-in-Ok-2 : goal.slice_bounds-run-end-in-Ok-2
slice_bounds-run-end-in-Ok-2 c = sym (length-take-le _ _ (answer (goal.at.slice_bounds-run-end-in-Ok-2 c).After-read _ c.in-Ok.is).words_in)

pub run-requires : goal.run-requires
run-requires c =
    rw ((formed_whole _ _ (sym c.state_of.ensures ∙ c.in-Some.is)).1) (answer (goal.at.run-requires c).After-read _ c.in-Ok.is).pass

pub returns-in-Some : goal.returns-in-Some
returns-in-Some c =
    rw (← (answer (goal.at.returns-in-Some c).After-read _ c.in-Ok.is).same, ← (formed_whole _ _ (sym c.state_of.ensures ∙ c.in-Some.is)).1) c.run.ensures

pub returns-in-Err-NoSheet : goal.returns-in-Err-NoSheet
returns-in-Err-NoSheet c =
    let is = c.in-Err-NoSheet.field-0-is in
    let same = rw is at (answer (goal.at.returns-in-Err-NoSheet c).After-read _ c.in-Err-NoSheet.is) in
    rw (← same) (rw is at (c.refuse-in-Err-NoSheet.ensures c.args.sheet.now))

pub returns-in-Err-Refused : goal.returns-in-Err-Refused
returns-in-Err-Refused c =
    let is = c.in-Err-Refused.field-0-is in
    let same = rw is at (answer (goal.at.returns-in-Err-Refused c).After-read _ c.in-Err-Refused.is) in
    rw (← same) (rw (c.into-in-Err-Refused.ensures, is) at (c.refuse-in-Err-Refused.ensures c.args.sheet.now))

pub returns-in-Err-TooLong : goal.returns-in-Err-TooLong
returns-in-Err-TooLong c =
    absurd (rw c.in-Err-TooLong.field-0-is at (answer (goal.at.returns-in-Err-TooLong c).After-read _ c.in-Err-TooLong.is))
