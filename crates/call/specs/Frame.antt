-- What a call does to the shadow stack, as the code has it, for the contract of a private function. Assumes nothing.
use Rattle.std.specs.Prelude.{ℕ, Bool, true, cond, Option, Some, None}
use Rattle.numbers.specs.Numbers.{byte_count}
use Rattle.processor.specs.State.{minus}
use Rattle.processor.specs.Accesses.{shadow}
use Rattle.processor.specs.declared.state.State.{State}
use Rattle.targets.specs.Targets.{pushed}
use Rattle.call.specs.Call.{pushes_frame}
use Rattle.call.specs.declared.Frame.{Frame}

-- SSP after a push
abbrev pub new_ssp : State → ℕ
new_ssp s = minus s s.ssp (byte_count (pushed s))

-- the push and SSP after it, if there is a push
unfoldable pub frame_of : State → Bool → ℕ → Option Frame
frame_of s framed next =
    cond (pushes_frame s framed) (Some (record { store = record { access = shadow s (new_ssp s) (pushed s) true; value = next }; ssp = new_ssp s })) None
