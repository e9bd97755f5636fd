-- Near RET, without and with a byte count. Assumes nothing.
use Rattle.std.specs.Prelude.{ℕ, false, not, cond, eqb}
use Rattle.numbers.specs.Numbers.{byte_count}
use Rattle.numbers.specs.declared.size.Size.{Size}
use Rattle.answers.specs.Answer.{ss, gp, cp_near_ret}
use Rattle.processor.specs.State.{enabled, plus}
use Rattle.processor.specs.Layout.{with_ip, with_sp, with_ssp}
use Rattle.processor.specs.Accesses.{shadow, ordinary}
use Rattle.processor.specs.Prog.{Prog, done, ◌>>=◌, ◌>>◌, load, unless}
use Rattle.processor.specs.declared.state.State.{State}
use Rattle.targets.specs.Targets.{in_code, pushed, runs_past}

-- the shadow stack's return address must be the one popped from the ordinary stack; SSP moves past it
unfoldable pub pop_frame : State → ℕ → Prog ℕ
pop_frame s target = do
  frame ← load (shadow s s.ssp (pushed s) false)
  unless (eqb frame target) cp_near_ret  -- #CP(NEAR-RET)
  done (plus s s.ssp (byte_count (pushed s)))

-- the new SSP: the shadow stack is looked at only where it is enabled
unfoldable pub new_ssp : State → ℕ → Prog ℕ
new_ssp s target = cond (enabled s) (pop_frame s target) (done s.ssp)

-- the return: the target is popped in the size in which a call pushes; `count` moves SP besides, past bytes that are not looked at
unfoldable pub ret : ℕ → State → Prog State
ret count s =
    let size : Size = pushed s in
    do
      unless (not (runs_past s s.sp)) ss  -- #SS(0)
      target ← load (ordinary s s.sp size false)  -- #SS(0) where a byte is not canonical
      ssp ← new_ssp s target
      unless (in_code s target) gp  -- #GP(0)
      done (with_ip (with_ssp (with_sp s (plus s (plus s s.sp (byte_count size)) count)) ssp) target)
