-- The permission bits of WRSS, WR_SHSTK_EN: bit 1 of U_CET and of S_CET. No operation is shown them: WRSS is told whether it is
-- permitted, and all that an operation reads is the state without them. So they alter nothing else. Assumes nothing.
use Rattle.std.specs.Prelude.{ℕ, ◌+◌, ◌-◌, ◌*◌}
use Rattle.processor.specs.Layout.{with_cet}
use Rattle.processor.specs.State.{write_enable}
use Rattle.processor.specs.declared.state.State.{State}

-- what that bit adds to a CET register: 0 or 2
unfoldable pub write_bit : ℕ → ℕ
write_bit register = write_enable register * 2

-- a CET register without it
unfoldable pub without_write : ℕ → ℕ
without_write register = register - write_bit register

-- the state as operations see it: without the permission bits
unfoldable pub hidden : State → State
hidden s = with_cet s (without_write s.ucet) (without_write s.scet)

-- a state with the permission bits of another
unfoldable pub shown : State → State → State
shown from s = with_cet s (without_write s.ucet + write_bit from.ucet) (without_write s.scet + write_bit from.scet)
