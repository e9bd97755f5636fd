-- INCSSPD and INCSSPQ. Assumes nothing.
use Rattle.std.specs.Prelude.{ℕ, ◌-◌, ◌*◌, ◌%◌, false, ltb}
use Rattle.numbers.specs.Numbers.{byte_count}
use Rattle.numbers.specs.declared.size.Size.{Size}
use Rattle.answers.specs.Answer.{ud}
use Rattle.processor.specs.State.{usable, plus, next}
use Rattle.processor.specs.Layout.{with_ip, with_ssp}
use Rattle.processor.specs.Accesses.{shadow}
use Rattle.processor.specs.Prog.{Prog, done, ◌>>◌, touch, unless, only_if}
use Rattle.processor.specs.declared.state.State.{State}

-- `b` is the count register: Range is its low 8 bits. The first and the last element popped are loaded, the first also where Range is 0
unfoldable pub incssp : Size → ℕ → ℕ → State → Prog State
incssp size b span s =
    let range : ℕ = b % 256 in
    do
      unless (usable s) ud  -- #UD
      touch (shadow s s.ssp size false)
      only_if (ltb 0 range) (touch (shadow s (plus s s.ssp (byte_count size * (range - 1))) size false))
      done (with_ip (with_ssp s (plus s s.ssp (byte_count size * range))) (next s span))
