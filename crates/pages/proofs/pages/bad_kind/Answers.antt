-- `bad_kind` meets its contract: a kind is bad where it is 0 or above 3. Assumes nothing.
use Rattle.std.proofs.Common.{arith}
use Rattle.std.proofs.lemmas.Bool.Decides.{nat_tests}
use Rattle.pages.specs.Pages.{bad_kind}
use Rattle.pages.proofs.pages.bad_kind.Goals as goal

pub returns-then-kind-eq0 : goal.returns-then-kind-eq0
unfolding bad_kind
returns-then-kind-eq0 c = grind (arith, nat_tests)

pub returns-else-kind-eq0 : goal.returns-else-kind-eq0
unfolding bad_kind
returns-else-kind-eq0 c = grind (arith, nat_tests)
