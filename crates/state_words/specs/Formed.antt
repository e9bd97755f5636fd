-- What words make: a state, and whether it is good (docs/RULES.md, "State"). Assumes nothing.
use Rattle.std.specs.Prelude.{ℕ, Bool, false, cond, List, length, eqb, Option, Some, None}
use Rattle.processor.specs.declared.state.State.{State}
use Rattle.processor.specs.State.{in_range}
use Rattle.processor.specs.Layout.{fields, state_of}

-- what words make: a state, if they are as many as it has fields
unfoldable pub formed : List ℕ → Option State
formed words = cond (eqb (length words) fields) (Some (state_of words)) None

-- they make a state, and each field is in its range
abbrev pub good_formed : Option State → Bool
good_formed (Some s) = in_range s
good_formed None = false

unfoldable pub good_state : List ℕ → Bool
good_state words = good_formed (formed words)
