-- Sums that wrap. Assumes nothing.
use Rattle.std.proofs.Common.{◌≡◌, ℕ, suc, ◌+◌, ◌-◌, ◌%◌, ◌^◌, ◌<◌, ◌≤◌, sym, ap, ◌∙◌, arith}
use Rattle.addresses.specs.Address.{modulus, wrapped, plus, minus}
use Rattle.addresses.specs.declared.address.Width.{Width}
use Rattle.addresses.specs.declared.address.Width.TheVariants.{Bits32, Bits64}

-- a sum modulo 2^64, cut to the width, is the sum at the width
pub plus_wraps : (w : Width) (a b : ℕ) → wrapped w ((a + b) % 2 ^ 64) ≡ plus w a b
unfolding wrapped plus
plus_wraps Bits32 a b = omega arith
plus_wraps Bits64 a b = omega arith

-- Remainders at a width, each fact small enough for `omega`.
cut_64 : (w : Width) (n : ℕ) → n % 2 ^ 64 % modulus w ≡ n % modulus w
cut_64 Bits32 n = omega arith
cut_64 Bits64 n = omega arith

cut_sum : (w : Width) (d b : ℕ) → (d + b) % modulus w ≡ (d % modulus w + b % modulus w) % modulus w
cut_sum Bits32 d b = omega arith
cut_sum Bits64 d b = omega arith

cut_left : (w : Width) (a k : ℕ) → (a % modulus w + k) % modulus w ≡ (a + k) % modulus w
cut_left Bits32 a k = omega arith
cut_left Bits64 a k = omega arith

below : (w : Width) (n : ℕ) → n % modulus w < modulus w
below Bits32 n = omega arith
below Bits64 n = omega arith

back : (w : Width) (x y z : ℕ) → x < modulus w → y < modulus w → (x + y) % modulus w ≡ z → x ≡ (z + (modulus w - y)) % modulus w
back Bits32 x y z hx hy e = omega arith
back Bits64 x y z hx hy e = omega arith

-- the number that b added to wraps back to a, cut to the width, is the difference at the width
pub minus_wraps : (w : Width) (a b d : ℕ) → (d + b) % 2 ^ 64 ≡ a → wrapped w d ≡ minus w a b
unfolding wrapped minus
minus_wraps w a b d e =
    back w (d % modulus w) (b % modulus w) (a % modulus w) (below w d) (below w b)
    (sym (cut_sum w d b) ∙ sym (cut_64 w (d + b)) ∙ ap (λ (n : ℕ). n % modulus w) e)
    ∙ cut_left w a (modulus w - b % modulus w)

-- one more byte
pub plus_one : (w : Width) (a n : ℕ) → plus w (plus w a n) 1 ≡ plus w a (n + 1)
unfolding plus
plus_one Bits32 a n = omega arith
plus_one Bits64 a n = omega arith

-- no more bytes: the first address itself
pub plus_none : (w : Width) (a n : ℕ) → n ≤ 0 → plus w a n ≡ wrapped w a
unfolding plus wrapped
plus_none w a n none = ap (λ (k : ℕ). k % modulus w) (omega arith)

-- ---- the addresses of an access

-- an address at the width
abbrev pub Wrapped : Width → ℕ → Type 0
Wrapped w a = plus w a 0 ≡ a

pub wrapped_plus : (w : Width) (a n : ℕ) → Wrapped w (plus w a n)
unfolding plus
wrapped_plus Bits32 a n = omega arith
wrapped_plus Bits64 a n = omega arith

pub wrapped_start : (w : Width) (n : ℕ) → Wrapped w (wrapped w n)
unfolding wrapped plus
wrapped_start Bits32 n = omega arith
wrapped_start Bits64 n = omega arith

pub one_on : (w : Width) (a i : ℕ) → plus w (plus w a 1) i ≡ plus w a (suc i)
unfolding plus
one_on Bits32 a i = omega arith
one_on Bits64 a i = omega arith
