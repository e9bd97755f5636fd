-- RSTORSSP. Assumes nothing.
use Rattle.std.specs.Prelude.{ℕ, ◌+◌, ◌%◌, ◌^◌, Bool, true, ◌&&◌, ◌||◌, eqb, ltb}
use Rattle.addresses.specs.Address.{minus as minus_at}
use Rattle.numbers.specs.declared.size.Size.TheVariants.{Eight}
use Rattle.addresses.specs.declared.address.Width.TheVariants.{Bits64}
use Rattle.answers.specs.Answer.{ud, gp, cp_rstorssp}
use Rattle.processor.specs.State.{is_long, long_bit, usable, plus, next}
use Rattle.processor.specs.Layout.{with_ip, with_ssp, with_flags}
use Rattle.processor.specs.Accesses.{shadow}
use Rattle.processor.specs.Prog.{Prog, done, ◌>>=◌, ◌>>◌, load, store, unless}
use Rattle.processor.specs.declared.state.State.{State}
use Rattle.processor.specs.Bits.{bit, clear, multiple}

-- where a restore token must stand: bit 0 cleared, less 8 modulo 2^64 in either mode, rounded down to a multiple of 8
unfoldable pub home : ℕ → ℕ
home token = multiple 8 (minus_at Bits64 (multiple 2 token) 8)

-- the three conditions of a good token at address a
unfoldable pub good_token : State → ℕ → ℕ → Bool
good_token s a token =
    eqb (token % 4) (long_bit s)
    && ((is_long s || ltb token (2 ^ 32))
    && eqb (home token) a)

-- RFLAGS: CF (bit 0) is given; PF, AF, ZF, SF, OF (bits 2, 4, 6, 7, 11) are cleared; the others stay
unfoldable pub restored_flags : ℕ → ℕ → ℕ
restored_flags flags carry = multiple 2 (clear 2 (clear 4 (clear 6 (clear 7 (clear 11 flags))))) + carry

-- `a` is the address of the token. The load is locked, so it counts as a store
unfoldable pub rstorssp : ℕ → ℕ → State → Prog State
rstorssp a span s = do
  unless (usable s) ud  -- #UD
  unless (eqb (a % 8) 0) gp  -- #GP(0)
  token ← load (shadow s a Eight true)
  unless (good_token s a token) cp_rstorssp  -- #CP(RSTORSSP)
  store (shadow s a Eight true) (plus s s.ssp (long_bit s + 2))
  done (with_ip (with_flags (with_ssp s a) (restored_flags s.flags (bit 2 token))) (next s span))
