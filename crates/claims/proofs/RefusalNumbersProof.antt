-- The two numberings of refusals 1 to 4 agree: the page list is tested first, so that what its test finds decides. Assumes nothing.
use Rattle.pages.specs.declared.pages.ListError.TheVariants.{BadLength, BadKind, BadAddress, Repeated}
use Rattle.replay.specs.Run.{check_by, check, run}
use Rattle.claims.specs.RefusalNumbers.{SameRefusalNumbers}

pub same_refusal_numbers : SameRefusalNumbers
unfolding run check check_by
same_refusal_numbers set given BadLength e = rw e
same_refusal_numbers set given BadKind e = rw e
same_refusal_numbers set given BadAddress e = rw e
same_refusal_numbers set given Repeated e = rw e
