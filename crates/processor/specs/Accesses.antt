-- The accesses that the processor makes (docs/RULES.md, "Reaching a byte"). Assumes nothing.
use Rattle.std.specs.Prelude.{ℕ, Bool, cond}
use Rattle.accesses.specs.declared.access.Access.{Access}
use Rattle.accesses.specs.declared.access.Kind.{Kind}
use Rattle.accesses.specs.declared.access.Kind.TheVariants.{UserShadow, SupervisorShadow, Ordinary}
use Rattle.numbers.specs.declared.size.Size.{Size}
use Rattle.processor.specs.State.{is_long, width_of, user_mode}
use Rattle.processor.specs.declared.state.State.{State}

-- an access of this mode and privilege: in mode 2 every byte must be canonical
abbrev pub access_of : State → Kind → ℕ → Size → Bool → Access
access_of s kind first size store = record { kind = kind; store = store; user = user_mode s; first = first; size = size; width = width_of s; canonical = is_long s }

-- a shadow access reaches kind 1 at CPL 3 and kind 2 below
abbrev pub shadow : State → ℕ → Size → Bool → Access
shadow s = access_of s (cond (user_mode s) UserShadow SupervisorShadow)

-- an ordinary access reaches kind 3 at any CPL
abbrev pub ordinary : State → ℕ → Size → Bool → Access
ordinary s = access_of s Ordinary
