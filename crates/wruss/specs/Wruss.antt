-- WRUSSD and WRUSSQ: the kernel's write to a user's shadow stack. Assumes nothing.
use Rattle.std.specs.Prelude.{ℕ, ◌%◌, Bool, true, not, ◌&&◌, eqb}
use Rattle.numbers.specs.Numbers.{byte_count}
use Rattle.accesses.specs.declared.access.Access.{Access}
use Rattle.accesses.specs.declared.access.Kind.TheVariants.{UserShadow}
use Rattle.numbers.specs.declared.size.Size.{Size}
use Rattle.answers.specs.Answer.{ud, gp}
use Rattle.processor.specs.State.{is_long, width_of, next}
use Rattle.processor.specs.Layout.{with_ip}
use Rattle.processor.specs.Prog.{Prog, done, ◌>>◌, store, unless}
use Rattle.processor.specs.declared.state.State.{State}

-- CR4.CET, and not mode 0; neither SH_STK_EN nor WR_SHSTK_EN is asked
unfoldable pub recognised : State → Bool
recognised s = not (eqb s.mode 0) && eqb s.cet 1

-- a store to a shadow stack as user code would make it: to kind 1, though the CPL is 0
abbrev pub user_store : State → ℕ → Size → Access
user_store s first size = record { kind = UserShadow; store = true; user = true; first = first; size = size; width = width_of s; canonical = is_long s }

-- `a` is the address, `b` the value, of which a store takes the low bytes
unfoldable pub wruss : Size → ℕ → ℕ → ℕ → State → Prog State
wruss size a b span s = do
  unless (recognised s) ud  -- #UD
  unless (eqb s.cpl 0) gp  -- #GP(0)
  unless (eqb (a % byte_count size) 0) gp  -- #GP(0)
  store (user_store s a size) b
  done (with_ip s (next s span))
