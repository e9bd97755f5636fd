-- A lent buffer after something was laid into it. Assumes nothing.
use Rattle.std.specs.Prelude.{ℕ, ◌+◌, cond, List, ◌++◌, length, take, drop}
use Rattle.numbers.specs.Numbers.{inside}

-- a piece laid over a buffer from a place on: what lies before and past it stays
unfoldable pub laid : {A : Type 0} → List A → ℕ → List A → List A
laid out at piece = take at out ++ (piece ++ drop (at + length piece) out)

-- the same where there is room for all of it, else the buffer as it was
unfoldable pub laid_if : {A : Type 0} → List A → ℕ → List A → List A
laid_if out at piece = cond (inside (length out) at (length piece)) (laid out at piece) out
