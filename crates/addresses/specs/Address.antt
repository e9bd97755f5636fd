-- Addresses: how wide they are, their sums, and which are canonical (docs/RULES.md, "Reaching a byte"). Assumes nothing.
use Rattle.std.specs.Prelude.{ℕ, ◌+◌, ◌-◌, ◌/◌, ◌%◌, ◌^◌, Bool, ◌||◌, ◌==◌}
use Rattle.addresses.specs.declared.address.Width.{Width}
use Rattle.addresses.specs.declared.address.Width.TheVariants.{Bits32, Bits64}

-- addresses and their sums wrap at 2^32 or at 2^64
abbrev pub modulus : Width → ℕ
modulus Bits32 = 2 ^ 32
modulus Bits64 = 2 ^ 64

-- the address that a number stands for
unfoldable pub wrapped : Width → ℕ → ℕ
wrapped w n = n % modulus w

-- a + b
unfoldable pub plus : Width → ℕ → ℕ → ℕ
plus w a b = (a + b) % modulus w

-- a - b: b's complement is added, so that nothing goes below 0
unfoldable pub minus : Width → ℕ → ℕ → ℕ
minus w a b = (a + (modulus w - b % modulus w)) % modulus w

-- bits 63 to 47 are all equal: all 0, or all 1
unfoldable pub canonical : ℕ → Bool
canonical address = address / 2 ^ 47 == 0 || address / 2 ^ 47 == 2 ^ 17 - 1
