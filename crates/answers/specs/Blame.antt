-- The fault of an access that cannot be done. Assumes nothing.
use Rattle.accesses.specs.declared.access.Access.{Access}
use Rattle.accesses.specs.declared.reach.Failure.{Failure}
use Rattle.accesses.specs.declared.reach.Failure.TheVariants.{NotCanonical, NotListed, WrongKind}
use Rattle.accesses.specs.declared.access.Kind.{Kind}
use Rattle.accesses.specs.declared.access.Kind.TheVariants.{UserShadow, SupervisorShadow, Ordinary}
use Rattle.answers.specs.Answer.{ss, gp, page_fault}
use Rattle.answers.specs.declared.answer.Fault.{Fault}

-- a byte that is not canonical: #GP(0) of a shadow access, #SS(0) of an access to the ordinary stack
abbrev pub not_canonical : Kind → Fault
not_canonical UserShadow = gp
not_canonical SupervisorShadow = gp
not_canonical Ordinary = ss

-- the fault of an access that cannot be done; #PF names the byte
abbrev pub blame : Access → Failure → Fault
blame a NotCanonical = not_canonical a.kind
blame a (NotListed address) = page_fault address
blame a (WrongKind address) = page_fault address
