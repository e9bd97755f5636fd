-- Refusals 1 to 4 have one number each: the one that the page list's own test gives is the one that a run answers (docs/RULES.md,
-- "Refusals and answers"). Assumes nothing.
use Rattle.std.specs.Prelude.{◌≡◌, length, Err}
use Rattle.pages.specs.Pages.{listing, refusal_number as listing_number}
use Rattle.answers.specs.Answer.{report_of}
use Rattle.pages.specs.declared.pages.ListError.{ListError}
use Rattle.perform.specs.Exec.{InstructionSet}
use Rattle.replay.specs.Run.{Input, run}

-- of any instruction set and any input, whatever the tests after the page list's would find
abbrev pub SameRefusalNumbers : Type 0
SameRefusalNumbers = (set : InstructionSet) (given : Input) (found : ListError)
    → listing given.pages (length given.bytes) ≡ Err found
    → (report_of (run set given).answer).refusal ≡ listing_number found
