-- Sums of addresses: how far they go, their remainders, and what an address has moved by. Assumes nothing.
use Rattle.std.proofs.Common.{◌≡◌, ℕ, ◌+◌, ◌%◌, ◌<◌, sym, ap, ◌∙◌, arith}
use native.Mathlib.Nat.{mod-add-mod}
use Rattle.addresses.specs.Address.{modulus, wrapped, plus, minus}
use Rattle.addresses.specs.declared.address.Width.{Width}
use Rattle.addresses.specs.declared.address.Width.TheVariants.{Bits32, Bits64}

-- ---- within the width

pub plus_below : (w : Width) (a b : ℕ) → plus w a b < modulus w
unfolding plus
plus_below Bits32 a b = omega arith
plus_below Bits64 a b = omega arith

pub minus_below : (w : Width) (a b : ℕ) → minus w a b < modulus w
unfolding minus
minus_below Bits32 a b = omega arith
minus_below Bits64 a b = omega arith

-- ---- multiples of 4

pub plus_aligned : (w : Width) (a b : ℕ) → a % 4 ≡ 0 → b % 4 ≡ 0 → plus w a b % 4 ≡ 0
unfolding plus
plus_aligned Bits32 a b ha hb = omega arith
plus_aligned Bits64 a b ha hb = omega arith

pub minus_aligned : (w : Width) (a b : ℕ) → a % 4 ≡ 0 → b % 4 ≡ 0 → minus w a b % 4 ≡ 0
unfolding minus
minus_aligned Bits32 a b ha hb = omega arith
minus_aligned Bits64 a b ha hb = omega arith

-- ---- what an address has moved by: the old one and what it moved up by, the new one and what it moved down by

-- up
pub plus_back : (w : Width) (a k : ℕ) → wrapped w (a + k) ≡ wrapped w (plus w a k + 0)
unfolding wrapped plus
plus_back Bits32 a k = omega arith
plus_back Bits64 a k = omega arith

-- up, and up again
pub plus_twice : (w : Width) (a k l : ℕ) → wrapped w (a + (k + l)) ≡ wrapped w (plus w (plus w a k) l + 0)
unfolding wrapped plus
plus_twice Bits32 a k l = omega arith
plus_twice Bits64 a k l = omega arith

-- down
pub minus_back : (w : Width) (a k : ℕ) → wrapped w (a + 0) ≡ wrapped w (minus w a k + k)
unfolding wrapped minus
minus_back Bits32 a k = omega arith
minus_back Bits64 a k = omega arith

-- equal remainders stay equal
add_same : (w : Width) (a b k : ℕ) → wrapped w a ≡ wrapped w b → wrapped w (a + k) ≡ wrapped w (b + k)
unfolding wrapped
add_same w a b k e = sym (mod-add-mod a (modulus w) k) ∙ ap (λ (x : ℕ). (x + k) % modulus w) e ∙ mod-add-mod b (modulus w) k

-- two moves, one after the other: from a to b, then from b to c
pub moves_add : (w : Width) (a b c up₁ down₁ up₂ down₂ : ℕ)
    → wrapped w (a + up₁) ≡ wrapped w (b + down₁) → wrapped w (b + up₂) ≡ wrapped w (c + down₂)
    → wrapped w (a + (up₁ + up₂)) ≡ wrapped w (c + (down₁ + down₂))
moves_add w a b c up₁ down₁ up₂ down₂ first second =
    ap (wrapped w) (omega arith)
    ∙ add_same w (a + up₁) (b + down₁) up₂ first
    ∙ ap (wrapped w) (omega arith)
    ∙ add_same w (b + up₂) (c + down₂) down₁ second
    ∙ ap (wrapped w) (omega arith)
