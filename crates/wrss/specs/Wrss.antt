-- WRSSD and WRSSQ. Assumes nothing.
use Rattle.std.specs.Prelude.{ℕ, ◌%◌, Bool, true, eqb}
use Rattle.numbers.specs.Numbers.{byte_count}
use Rattle.numbers.specs.declared.size.Size.{Size}
use Rattle.answers.specs.Answer.{ud, gp}
use Rattle.processor.specs.State.{usable, next}
use Rattle.processor.specs.Layout.{with_ip}
use Rattle.processor.specs.Accesses.{shadow}
use Rattle.processor.specs.Prog.{Prog, done, ◌>>◌, store, unless}
use Rattle.processor.specs.declared.state.State.{State}

-- `permitted` is WR_SHSTK_EN of this CPL; `a` is the address, `b` the value, of which a store takes the low bytes
unfoldable pub wrss : Size → Bool → ℕ → ℕ → ℕ → State → Prog State
wrss size permitted a b span s = do
  unless (usable s) ud  -- #UD
  unless permitted ud  -- #UD
  unless (eqb (a % byte_count size) 0) gp  -- #GP(0)
  store (shadow s a size true) b
  done (with_ip s (next s span))
