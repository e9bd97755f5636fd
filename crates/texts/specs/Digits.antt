-- Numbers as a sheet writes them: the letter x and 16 hexadecimal digits, lower case, highest first (docs/RULES.md, "Run sheets").
-- Characters are their ASCII codes. Assumes nothing.
use Rattle.std.specs.Prelude.{ℕ, zero, suc, ◌+◌, ◌*◌, ◌/◌, ◌%◌, ◌<◌, Bool, cond, ◌&&◌, ◌||◌, List, [], ◌∷◌, ◌++◌, get_or, ltb, leb}

-- ---- characters

abbrev pub tab : ℕ
tab = 9

abbrev pub line_feed : ℕ
line_feed = 10

abbrev pub letter_x : ℕ
letter_x = 120

-- the digit for 0 to 15: 0 to 9, then a to f
unfoldable pub digit : ℕ → ℕ
digit d = cond (ltb d 10) (48 + d) (87 + d)

-- ---- writing

-- the n lowest hexadecimal digits of a number, highest first
unfoldable pub hex : ℕ → ℕ → List ℕ
hex zero v = []
hex (suc n) v = hex n (v / 16) ++ (digit (v % 16) ∷ [])

-- how many digits every number has
abbrev pub digits : ℕ
digits = 16

unfoldable pub number : ℕ → List ℕ
number v = letter_x ∷ hex digits v

-- ---- reading: nothing here need be believed, since it is pinned to writing (crates/sheet_claims)

-- 0 to 9, or a to f
unfoldable pub is_digit : ℕ → Bool
is_digit c = (leb 48 c && leb c 57) || (leb 97 c && leb c 102)

-- what a digit stands for; of any other character, some number below 16
unfoldable pub digit_value : ℕ → ℕ
digit_value c = cond (ltb c 58) (c % 16) ((c % 16 + 9) % 16)

-- digits read from the left, behind a number that was read before
unfoldable pub value_from : ℕ → List ℕ → ℕ
value_from v [] = v
value_from v (c ∷ cs) = value_from (v * 16 + digit_value c) cs

unfoldable pub value_of : List ℕ → ℕ
value_of cs = value_from 0 cs

-- ---- what a list holds

-- every element is below a bound: 256 in a list of bytes, 2 ^ 64 in one of numbers
unfoldable pub Below : ℕ → List ℕ → Type 0
Below bound xs = (i : ℕ) → get_or xs i 0 < bound
