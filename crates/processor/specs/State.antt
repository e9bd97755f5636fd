-- What the rules read off a state (docs/RULES.md, "State"). Assumes nothing.
use Rattle.std.specs.Prelude.{ℕ, ◌/◌, ◌%◌, ◌^◌, Bool, true, not, cond, ◌&&◌, ◌||◌, eqb, ltb, leb}
use Rattle.addresses.specs.Address.{plus as plus_at, minus as minus_at}
use Rattle.addresses.specs.declared.address.Width.{Width}
use Rattle.addresses.specs.declared.address.Width.TheVariants.{Bits32, Bits64}
use Rattle.processor.specs.declared.state.State.{State}

-- ---- the mode

-- 64-bit mode
abbrev pub is_long : State → Bool
is_long s = eqb s.mode 2

-- the rules call it L
abbrev pub long_bit : State → ℕ
long_bit s = cond (is_long s) 1 0

abbrev pub width_of : State → Width
width_of s = cond (is_long s) Bits64 Bits32

-- pointer sums
unfoldable pub plus : State → ℕ → ℕ → ℕ
plus s a b = plus_at (width_of s) a b

unfoldable pub minus : State → ℕ → ℕ → ℕ
minus s a b = minus_at (width_of s) a b

-- the rules call it Next; `span` is the instruction's length in bytes, here and in the operations
unfoldable pub next : State → ℕ → ℕ
next s span = plus s s.ip span

-- ---- privilege and CET

abbrev pub user_mode : State → Bool
user_mode s = eqb s.cpl 3

-- the register of this CPL
abbrev pub register : State → ℕ
register s = cond (user_mode s) s.ucet s.scet

-- SH_STK_EN and WR_SHSTK_EN: bits 0 and 1 of a CET register
abbrev pub shadow_enable : ℕ → ℕ
shadow_enable register = register % 2

abbrev pub write_enable : ℕ → ℕ
write_enable register = register / 2 % 2

-- the rules' "enabled": CR4.CET and SH_STK_EN of this CPL
unfoldable pub enabled : State → Bool
enabled s = eqb s.cet 1 && eqb (shadow_enable (register s)) 1

-- in mode 0 no shadow stack operation is recognised
unfoldable pub usable : State → Bool
usable s = not (eqb s.mode 0) && enabled s

-- WR_SHSTK_EN of this CPL
unfoldable pub permitted : State → Bool
permitted s = eqb (write_enable (register s)) 1

-- ---- refusal 5, in parts

-- what each of these may be, whatever the others are
unfoldable pub fixed_fit : State → Bool
fixed_fit s = leb s.mode 2 && (leb s.cpl 3 && (leb s.cet 1 && ltb s.limit (2 ^ 32)))

-- a CET register, U_CET or S_CET: any number
unfoldable pub cet_fits : ℕ → Bool
cet_fits register = true

-- SSP is a multiple of 4; outside mode 2, IP, SP and SSP are below 2^32
unfoldable pub pointers_fit : State → Bool
pointers_fit s = eqb (s.ssp % 4) 0 && (is_long s || (ltb s.ip (2 ^ 32) && (ltb s.sp (2 ^ 32) && ltb s.ssp (2 ^ 32))))

-- every field is in its range
unfoldable pub in_range : State → Bool
in_range s = fixed_fit s && ((cet_fits s.ucet && cet_fits s.scet) && pointers_fit s)
