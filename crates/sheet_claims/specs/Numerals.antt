-- What is read as a number: its text, the letter x and 16 digits, and nothing else. Assumes nothing.
use Rattle.std.specs.Prelude.{ℕ, ◌^◌, ◌<◌, ◌≡◌, List, ◌++◌, length, take, Some}
use Rattle.texts.specs.Digits.{number}
use Rattle.texts.specs.Fields.{numeral}

-- a number of 64 bits is read back, whatever follows it
abbrev pub NumberRead : Type 0
NumberRead = (v : ℕ) (u : List ℕ) → v < 2 ^ 64 → numeral (number v ++ u) ≡ Some v

-- what is read as a number begins with that number's text
abbrev pub OnlyNumbers : Type 0
OnlyNumbers = (v : ℕ) (u : List ℕ) → numeral u ≡ Some v → take (length (number v)) u ≡ number v
