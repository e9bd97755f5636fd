-- The permission bits of WRSS, hidden, put back and switched on: nothing else that is read off a state changes, and a WRSS that was
-- permitted still is. Assumes nothing.
use Rattle.std.proofs.Common.{◌≡◌, ℕ, ◌+◌, ◌*◌, ◌/◌, ◌%◌, Bool, true, false, cond, not, ◌&&◌, eqb, refl, ap, ap₂, arith, eq-eqb, eqb-true}
use Rattle.processor.specs.State.{user_mode, enabled, usable, permitted, fixed_fit, cet_fits, pointers_fit, in_range}
use Rattle.processor.specs.declared.state.State.{State}
use Rattle.instructions.specs.Permission.{write_bit, without_write, hidden, shown}
use Rattle.processor.specs.Layout.{with_cet}
use Rattle.claims.specs.MoreRights.{switched_on, granted}

-- ---- one CET register

-- the bits above bit 1, and bit 0
without_write_lem : (x : ℕ) → without_write x ≡ x / 4 * 4 + x % 2
unfolding without_write write_bit
without_write_lem x = omega arith

without_low : (x : ℕ) → without_write x % 2 ≡ x % 2
without_low x = let e = without_write_lem x in omega arith

-- a register's bit put over that of another
without_put : (x y : ℕ) → without_write (without_write y + write_bit x) ≡ without_write y
unfolding write_bit
without_put x y =
    let e = without_write_lem y in
    let f = without_write_lem (without_write y + x / 2 % 2 * 2) in
    omega arith

bit_on : (x : ℕ) → write_bit (without_write x + 2) ≡ 2
unfolding write_bit
bit_on x = let e = without_write_lem x in omega arith

without_switched : (on : Bool) (x : ℕ) → without_write (switched_on on x) ≡ without_write x
without_switched true x =
    let e = without_write_lem x in
    let f = without_write_lem (without_write x + 2) in
    omega arith
without_switched false x = refl

with_switched : (on : Bool) (x y : ℕ) → without_write y + write_bit (switched_on on x) ≡ switched_on on (without_write y + write_bit x)
with_switched true x y = rw (bit_on x, without_put x y)
with_switched false x y = refl

still_set : (on : Bool) (x : ℕ) → x / 2 % 2 ≡ 1 → switched_on on x / 2 % 2 ≡ 1
still_set true x e = let f = without_write_lem x in omega arith
still_set false x e = e

-- bit 1 plays no part in a register's range
cet_alike : (x y : ℕ) → without_write x ≡ without_write y → cet_fits x ≡ cet_fits y
unfolding cet_fits
cet_alike x y e = refl

-- hidden, and put back from another register
pub cet_hidden : (x : ℕ) → cet_fits (without_write x) ≡ cet_fits x
cet_hidden x = cet_alike _ x (let e = without_write_lem x in let f = without_write_lem (without_write x) in omega arith)

pub cet_shown : (x y : ℕ) → cet_fits (without_write y + write_bit x) ≡ cet_fits y
cet_shown x y = cet_alike _ y (without_put x y)

-- ---- a state

-- an operation sees the same
pub hidden_granted : (user supervisor : Bool) (s : State) → hidden (granted user supervisor s) ≡ hidden s
unfolding hidden granted
hidden_granted user supervisor s = ap₂ (with_cet s) (without_switched user s.ucet) (without_switched supervisor s.scet)

-- and what it leaves is put back alike
pub shown_granted : (user supervisor : Bool) (s t : State) → shown (granted user supervisor s) t ≡ granted user supervisor (shown s t)
unfolding shown granted
shown_granted user supervisor s t = ap₂ (with_cet t) (with_switched user s.ucet t.ucet) (with_switched supervisor s.scet t.scet)

-- the two CET registers are in their ranges alike
pub range_granted : (user supervisor : Bool) (s : State) → in_range (granted user supervisor s) ≡ in_range s
unfolding in_range fixed_fit pointers_fit granted
range_granted user supervisor s = rw (cet_alike _ _ (without_switched user s.ucet), cet_alike _ _ (without_switched supervisor s.scet))

pub still_permitted : (user supervisor : Bool) (s : State) → permitted s ≡ true → permitted (granted user supervisor s) ≡ true
unfolding permitted granted
still_permitted user supervisor s e = eq-eqb _ 1 (go (user_mode s) (eqb-true _ 1 e))
  where
    go : (t : Bool) → cond t s.ucet s.scet / 2 % 2 ≡ 1 → cond t (switched_on user s.ucet) (switched_on supervisor s.scet) / 2 % 2 ≡ 1
    go true q = still_set user s.ucet q
    go false q = still_set supervisor s.scet q

-- SH_STK_EN is not among the bits
pub enabled_hidden : (s : State) → enabled (hidden s) ≡ enabled s
unfolding enabled hidden
enabled_hidden s = ap (λ (low : ℕ). eqb s.cet 1 && eqb low 1) (go (user_mode s))
  where
    go : (t : Bool) → cond t (without_write s.ucet) (without_write s.scet) % 2 ≡ cond t s.ucet s.scet % 2
    go true = without_low s.ucet
    go false = without_low s.scet

pub usable_hidden : (s : State) → usable (hidden s) ≡ usable s
unfolding usable hidden
usable_hidden s = ap (λ (on : Bool). not (eqb s.mode 0) && on) (enabled_hidden s)
