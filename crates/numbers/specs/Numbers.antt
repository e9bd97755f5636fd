-- Numbers of 4 and 8 bytes, low byte first, at a place of a list of bytes. Assumes nothing.
use Rattle.std.specs.Prelude.{ℕ, zero, suc, ◌+◌, ◌*◌, ◌/◌, ◌%◌, Bool, cond, List, [], ◌∷◌, length, get_or, set, leb, Option, Some, None}
use Rattle.numbers.specs.declared.size.Size.{Size}
use Rattle.numbers.specs.declared.size.Size.TheVariants.{Four, Eight}

abbrev pub byte_count : Size → ℕ
byte_count Four = 4
byte_count Eight = 8

-- n bytes from a place on lie within a list of this length
unfoldable pub inside : ℕ → ℕ → ℕ → Bool
inside lent place n = leb (place + n) lent

-- the number that n bytes hold
unfoldable pub number_at : List ℕ → ℕ → ℕ → ℕ
number_at bytes place zero = 0
number_at bytes place (suc n) = get_or bytes place 0 + 256 * number_at bytes (suc place) n

-- the n lowest bytes of a number, low byte first
unfoldable pub little_bytes : ℕ → ℕ → List ℕ
little_bytes zero v = []
little_bytes (suc n) v = v % 256 ∷ little_bytes n (v / 256)

-- the number that n bytes hold, or `None` where the list ends before the n bytes do
unfoldable pub held : List ℕ → ℕ → ℕ → Option ℕ
held bytes place n = cond (inside (length bytes) place n) (Some (number_at bytes place n)) None

-- the low n bytes of a value, put from a place on
unfoldable pub put_at : ℕ → ℕ → ℕ → List ℕ → List ℕ
put_at place zero v bytes = bytes
put_at place (suc n) v bytes = put_at (suc place) n (v / 256) (set bytes place (v % 256))

-- the same where the list has room for all n, else the list as it was
unfoldable pub put_if : ℕ → ℕ → ℕ → List ℕ → List ℕ
put_if place n v bytes = cond (inside (length bytes) place n) (put_at place n v bytes) bytes
