-- Single bits of a number. Assumes nothing.
use Rattle.std.specs.Prelude.{ℕ, ◌-◌, ◌*◌, ◌/◌, ◌%◌, ◌^◌}

abbrev pub bit : ℕ → ℕ → ℕ
bit n x = x / 2 ^ n % 2

-- x with bit n cleared
abbrev pub clear : ℕ → ℕ → ℕ
clear n x = x - bit n x * 2 ^ n

-- x with its low bits cleared: the multiple of m at or below it
abbrev pub multiple : ℕ → ℕ → ℕ
multiple m x = x - x % m
