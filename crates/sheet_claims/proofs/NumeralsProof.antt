-- What is read as a number: its text, and nothing else. Assumes nothing.
use Rattle.std.proofs.Common.{◌≡◌, ℕ, Bool, true, false, length, take, drop, refl, arith, take_at}
use Rattle.texts.specs.Digits.{digits, hex, number, value_of}
use Rattle.texts.specs.Fields.{number_form, begins, numeral}
use Rattle.texts.proofs.DigitLaws.{hex_length, number_length, value_hex}
use Rattle.texts.proofs.Fields.{number_begins, number_front}
use Rattle.texts.proofs.FormLaws.{begins_more}
use Rattle.sheet_claims.specs.Numerals.{NumberRead, OnlyNumbers}

pub number_read : NumberRead
unfolding numeral number
number_read v u small =
    rw (begins_more number_form (number v) u (number_begins v), take_at (hex digits v) u digits (hex_length digits v), value_hex v small)

pub only_numbers : OnlyNumbers
unfolding numeral
only_numbers v u e = go (begins number_form u) refl
  where
    go : (t : Bool) → begins number_form u ≡ t → take (length (number v)) u ≡ number v
    go true h =
        let same = rw h at e in
        let v_is : v ≡ value_of (take digits (drop 1 u)) = cc in
        rw (number_length v, v_is) (number_front u h)
    go false h = let same = rw h at e in absurd cc
