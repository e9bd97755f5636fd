-- SAVEPREVSSP. Assumes nothing.
use Rattle.std.specs.Prelude.{ℕ, ◌+◌, ◌%◌, ◌^◌, Bool, true, false, not, cond, ◌&&◌, ◌||◌, eqb, ltb}
use Rattle.numbers.specs.declared.size.Size.TheVariants.{Four, Eight}
use Rattle.answers.specs.Answer.{ud, gp}
use Rattle.processor.specs.State.{is_long, long_bit, usable, plus, minus, next}
use Rattle.processor.specs.Layout.{with_ip, with_ssp}
use Rattle.processor.specs.Accesses.{shadow}
use Rattle.processor.specs.Prog.{Prog, done, ◌>>=◌, ◌>>◌, load, store, unless}
use Rattle.processor.specs.declared.state.State.{State}
use Rattle.processor.specs.Bits.{bit, multiple}

-- CF, bit 0 of RFLAGS
abbrev pub carry : State → Bool
carry s = eqb (s.flags % 2) 1

-- the hole at the top of the stack: 4 bytes, which must be 0; SSP moves past it
unfoldable pub pop_hole : State → ℕ → Prog ℕ
pop_hole s top = do
  hole ← load (shadow s top Four false)
  unless (eqb hole 0) gp  -- #GP(0)
  done (plus s top 4)

-- the new SSP: past the hole where CF says that there is one, which mode 2 does not allow
unfoldable pub new_top : State → ℕ → Prog ℕ
new_top s top = do
  unless (not (carry s && is_long s)) gp  -- #GP(0)
  cond (carry s) (pop_hole s top) (done top)

-- what the token must be
unfoldable pub saved_token : State → ℕ → Bool
saved_token s token = eqb (bit 1 token) 1 && (is_long s || ltb token (2 ^ 32))

-- With the token popped: the hole, the token's checks, then 4 zero bytes below Old, and a restore token 8 below Old rounded down to a
-- multiple of 8; where Old is one, the token covers the zero bytes.
unfoldable pub leave_token : ℕ → ℕ → State → Prog State
leave_token token span s =
    let old : ℕ = multiple 4 token in
    do
      top ← new_top s (plus s s.ssp 8)
      unless (saved_token s token) gp  -- #GP(0)
      store (shadow s (minus s old 4) Four true) 0
      store (shadow s (minus s (multiple 8 old) 8) Eight true) (old + long_bit s)
      done (with_ip (with_ssp s top) (next s span))

-- the whole operation: the previous-SSP token is popped, and a restore token left on the stack that it names
unfoldable pub saveprevssp : ℕ → State → Prog State
saveprevssp span s = do
  unless (usable s) ud  -- #UD
  unless (eqb (s.ssp % 8) 0) gp  -- #GP(0)
  token ← load (shadow s s.ssp Eight false)
  leave_token token span s
