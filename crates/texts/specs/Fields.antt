-- Numbers as fields of a text, each behind a tab, lines of any name, and a text in lines (docs/RULES.md, "Run sheets"). Assumes nothing.
use Rattle.std.specs.Prelude.{ℕ, zero, suc, Bool, true, false, cond, ◌&&◌, List, [], ◌∷◌, ◌++◌, take, drop, replicate, eqb, Option, Some, None}
use Rattle.texts.specs.Digits.{tab, line_feed, letter_x, digits, number, is_digit, value_of}

-- ---- writing

-- numbers, each behind a tab
unfoldable pub fields : List ℕ → List ℕ
fields [] = []
fields (v ∷ vs) = tab ∷ (number v ++ fields vs)

-- a line of any name
abbrev pub line_of : List ℕ → List ℕ → List ℕ
line_of named vs = named ++ (fields vs ++ (line_feed ∷ []))

-- how long a number is with the tab before it: tab, letter x, 16 digits
abbrev pub field_bytes : ℕ
field_bytes = 18

-- ---- a text and its lines

-- lines, one behind the other
unfoldable pub joined : List (List ℕ) → List ℕ
joined [] = []
joined (l ∷ ls) = l ++ joined ls

-- a character put in front of the first line's own; a line by itself where there is none
abbrev pub in_front : ℕ → List (List ℕ) → List (List ℕ)
in_front c [] = (c ∷ []) ∷ []
in_front c (l ∷ ls) = (c ∷ l) ∷ ls

-- A text in lines, each with the line feed that ends it; what follows the last line feed is a line too, where there is anything.
unfoldable pub lines : List ℕ → List (List ℕ)
lines [] = []
lines (c ∷ cs) = cond (eqb c line_feed) ((c ∷ []) ∷ lines cs) (in_front c (lines cs))

-- ---- reading: from here on nothing need be believed, since reading is pinned to writing (crates/sheet_claims)

-- Forms: a mark in one stands for itself, but this one, #, for any digit.
abbrev pub any_digit : ℕ
any_digit = 35

-- what every number looks like
abbrev pub number_form : List ℕ
number_form = letter_x ∷ replicate digits any_digit

-- what n numbers look like, each behind a tab
unfoldable pub field_forms : ℕ → List ℕ
field_forms zero = []
field_forms (suc n) = tab ∷ (number_form ++ field_forms n)

-- a character fits its mark
abbrev pub fits_mark : ℕ → ℕ → Bool
fits_mark mark c = cond (eqb mark any_digit) (is_digit c) (eqb c mark)

-- a text that begins with this form
unfoldable pub begins : List ℕ → List ℕ → Bool
begins [] text = true
begins (mark ∷ marks) [] = false
begins (mark ∷ marks) (c ∷ cs) = fits_mark mark c && begins marks cs

-- the number with which a text begins, if it begins with one
unfoldable pub numeral : List ℕ → Option ℕ
numeral u = cond (begins number_form u) (Some (value_of (take digits (drop 1 u)))) None

-- the n numbers whose tabs begin here
unfoldable pub values_in : ℕ → List ℕ → List ℕ
values_in zero cs = []
values_in (suc n) cs = value_of (take digits (drop 2 cs)) ∷ values_in n (drop field_bytes cs)
