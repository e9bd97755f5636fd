-- Where calls and returns may go, and how many bytes they push and pop (docs/RULES.md, "The operations"). Assumes nothing.
use Rattle.std.specs.Prelude.{ℕ, ◌+◌, ◌-◌, ◌%◌, ◌^◌, Bool, not, cond, ◌&&◌, eqb, ltb, leb, ℤ, pos, negsuc}
use Rattle.addresses.specs.Address.{canonical}
use Rattle.numbers.specs.declared.size.Size.{Size}
use Rattle.numbers.specs.declared.size.Size.TheVariants.{Four, Eight}
use Rattle.processor.specs.State.{is_long, plus, minus, next}
use Rattle.processor.specs.declared.state.State.{State}

-- ---- the target

-- the displacement: the low 32 bits of A as a signed number, from -2^31 to 2^31 - 1; `negsuc d` is -(d + 1)
unfoldable pub displacement : ℕ → ℤ
displacement a =
    let low : ℕ = a % 2 ^ 32 in
    cond (ltb low (2 ^ 31)) (pos low) (negsuc (2 ^ 32 - 1 - low))

-- the displacement is not 0; Intel's text has `DEST != 0`
unfoldable pub displaced : ℕ → Bool
displaced a = not (eqb (a % 2 ^ 32) 0)

-- a pointer moved by a signed number
abbrev pub moved : State → ℕ → ℤ → ℕ
moved s from (pos d) = plus s from d
moved s from (negsuc d) = minus s from (d + 1)

-- the target of a relative call
unfoldable pub relative : State → ℕ → ℕ → ℕ
relative s a span = moved s (next s span) (displacement a)

-- in mode 2 the target must be canonical; in the other modes it must be at most the code limit
unfoldable pub in_code : State → ℕ → Bool
in_code s target = cond (is_long s) (canonical target) (leb target s.limit)

-- ---- the pushes and pops

-- 8 bytes in mode 2, otherwise 4
abbrev pub pushed : State → Size
pushed s = cond (is_long s) Eight Four

-- outside mode 2: 4 bytes from this address on run past 2^32
unfoldable pub runs_past : State → ℕ → Bool
runs_past s first = not (is_long s) && ltb (2 ^ 32) (first + 4)
