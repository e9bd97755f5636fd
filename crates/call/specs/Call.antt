-- Near CALL, relative and absolute. Assumes nothing.
use Rattle.std.specs.Prelude.{ℕ, Bool, true, not, cond, ◌&&◌}
use Rattle.numbers.specs.Numbers.{byte_count}
use Rattle.numbers.specs.declared.size.Size.{Size}
use Rattle.answers.specs.Answer.{ss, gp}
use Rattle.processor.specs.State.{enabled, minus, next}
use Rattle.processor.specs.Layout.{with_ip, with_sp, with_ssp}
use Rattle.processor.specs.Accesses.{shadow, ordinary}
use Rattle.processor.specs.Prog.{Prog, done, ◌>>◌, store, unless, only_if}
use Rattle.processor.specs.declared.state.State.{State}
use Rattle.targets.specs.Targets.{in_code, pushed, runs_past}

-- a frame is pushed where the shadow stack is enabled and the call's form makes one
unfoldable pub pushes_frame : State → Bool → Bool
pushes_frame s framed = enabled s && framed

-- The call: Next on the ordinary stack and, where the shadow stack is pushed on, there too; then the target. `framed` says whether the
-- call's form makes a frame: that of a relative call with displacement 0 does not, every other does.
unfoldable pub call : ℕ → Bool → ℕ → State → Prog State
call target framed span s =
    let size : Size = pushed s in
    let sp : ℕ = minus s s.sp (byte_count size) in
    let ssp : ℕ = minus s s.ssp (byte_count size) in
    do
      unless (in_code s target) gp  -- #GP(0)
      unless (not (runs_past s sp)) ss  -- #SS(0), outside mode 2
      store (ordinary s sp size true) (next s span)  -- #SS(0) where a byte is not canonical
      only_if (pushes_frame s framed) (store (shadow s ssp size true) (next s span))
      done (with_ip (with_ssp (with_sp s sp) (cond (pushes_frame s framed) ssp s.ssp)) target)
