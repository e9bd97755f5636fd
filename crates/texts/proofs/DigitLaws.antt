-- Digits and numbers: a digit, and a number of 64 bits, written and read back is itself; digits read and written back are themselves;
-- how long a number is, and how large. Assumes nothing.
use Prim.Native.Nat.{ℕ, zero, suc, ◌+◌, ◌*◌, ◌/◌, ◌%◌, ◌^◌, ◌<◌, ◌≤◌}
use mathlib.Core.Path.{◌≡◌, refl, sym, ap, ap₂, ◌∙◌}
use mathlib.Core.Bool.{Bool, true, false, false≢true, ◌&&◌, and-false, or-false}
use mathlib.Core.List.{List, [], ◌∷◌, ◌++◌, append_assoc, append-nil}
use native.Mathlib.Nat.{pow-suc, add-zero, zero-add, suc-add, add-suc, mul-le-mul_right, pow-le-pow_right, div-lt_iff_lt-mul}
use native.Mathlib.Numerals.{add-one}
use native.Mathlib.Omega.{arith}
use lib.ListN.{length, length-append, replicate}
use lib.Dec.{ltb, leb}
use borrow.Author.Tests.{lt-ltb, le-ltb, le-leb, lt-leb, ltb-true, ltb-false, leb-true}
use Rattle.texts.specs.Digits.{digits, digit, hex, number, is_digit, digit_value, value_from, value_of}
use Rattle.texts.specs.Fields.{any_digit, begins}

-- ---- tests

pub both : (a b : Bool) → (a && b) ≡ true → (a ≡ true) × (b ≡ true)
both true b e = (refl, e)
both false b e = absurd (false≢true e)

pub and_both : {a b : Bool} → a ≡ true → b ≡ true → (a && b) ≡ true
and_both h k = ap₂ (λ (s t : Bool). s && t) h k

pub same : (a b : Bool) → (a ≡ true → b ≡ true) → (b ≡ true → a ≡ true) → a ≡ b
same true b f g = sym (f refl)
same false true f g = g refl
same false false f g = refl

-- ---- one digit

pub digit_is : (d : ℕ) → d < 16 → is_digit (digit d) ≡ true
unfolding digit is_digit
digit_is d h = go (ltb d 10) refl
  where
    go : (b : Bool) → ltb d 10 ≡ b → is_digit (digit d) ≡ true
    go true e = let small = ltb-true d 10 e in rw (e, le-leb 48 (48 + d) (omega arith), le-leb (48 + d) 57 (omega arith))
    go false e =
        let large = ltb-false d 10 e in
        rw (e, le-leb 48 (87 + d) (omega arith), lt-leb (87 + d) 57 (omega arith), le-leb 97 (87 + d) (omega arith), le-leb (87 + d) 102 (omega arith))

pub digit_value_lem : (d : ℕ) → d < 16 → digit_value (digit d) ≡ d
unfolding digit digit_value
digit_value_lem d h = go (ltb d 10) refl
  where
    go : (b : Bool) → ltb d 10 ≡ b → digit_value (digit d) ≡ d
    go true e = let small = ltb-true d 10 e in rw (e, lt-ltb (48 + d) 58 (omega arith)) (omega arith)
    go false e = let large = ltb-false d 10 e in rw (e, le-ltb (87 + d) 58 (omega arith)) (omega arith)

pub digit_below : (c : ℕ) → digit_value c < 16
unfolding digit_value
digit_below c = go (ltb c 58) refl
  where
    go : (b : Bool) → ltb c 58 ≡ b → digit_value c < 16
    go true e = rw e (omega arith)
    go false e = rw e (omega arith)

pub value_digit : (c : ℕ) → is_digit c ≡ true → digit (digit_value c) ≡ c
unfolding digit is_digit digit_value
value_digit c h = go (ltb c 58) refl
  where
    go : (b : Bool) → ltb c 58 ≡ b → digit (digit_value c) ≡ c
    go true e =
        let small = ltb-true c 58 e in
        let parts = both (leb 48 c) (leb c 57) (rw (lt-leb 97 c (omega arith), or-false) at h) in
        let least = leb-true 48 c parts.0 in
        rw (e, lt-ltb (c % 16) 10 (omega arith)) (omega arith)
    go false e =
        let large = ltb-false c 58 e in
        let parts = both (leb 97 c) (leb c 102) (rw (lt-leb c 57 (omega arith), and-false) at h) in
        let least = leb-true 97 c parts.0 in
        let most = leb-true c 102 parts.1 in
        rw (e, le-ltb ((c % 16 + 9) % 16) 10 (omega arith)) (omega arith)

-- ---- lengths

pub hex_length : (n v : ℕ) → length (hex n v) ≡ n
unfolding hex
hex_length zero v = refl
hex_length (suc n) v = length-append (hex n (v / 16)) (digit (v % 16) ∷ []) ∙ ap (λ (k : ℕ). k + 1) (hex_length n (v / 16)) ∙ add-one n

pub number_length : (v : ℕ) → length (number v) ≡ 17
unfolding number
number_length v = ap suc (hex_length 16 v)

-- ---- how large a number is

from_below : (cs : List ℕ) (v : ℕ) → value_from v cs < suc v * 16 ^ length cs
unfolding value_from
from_below [] v = omega arith
from_below (c ∷ cs) v =
    let rest = from_below cs (v * 16 + digit_value c) in
    let small = digit_below c in
    let more = mul-le-mul_right {m = suc (v * 16 + digit_value c)} {n = suc v * 16} (16 ^ length cs) (omega arith) in
    rw (pow-suc 16 (length cs)) (omega arith)

pub value_below : (cs : List ℕ) → length cs ≤ 16 → value_of cs < 2 ^ 64
unfolding value_of
value_below cs h =
    let below = from_below cs 0 in
    let most : 16 ^ length cs ≤ 16 ^ 16 = pow-le-pow_right (omega arith) h in
    omega arith

-- ---- written and read back

-- a number's digits, then others: these are read behind the number
from_hex : (n v : ℕ) (cs : List ℕ) → v < 16 ^ n → value_from 0 (hex n v ++ cs) ≡ value_from v cs
unfolding hex value_from
from_hex zero v cs h = ap (λ (k : ℕ). value_from k cs) (omega arith)
from_hex (suc n) v cs h =
    ap (value_from 0) (append_assoc (hex n (v / 16)) (digit (v % 16) ∷ []) cs)
    ∙ from_hex n (v / 16) (digit (v % 16) ∷ cs) ((div-lt_iff_lt-mul (omega arith)).1 (rw (pow-suc 16 n) at h))
    ∙ rw (digit_value_lem (v % 16) (omega arith)) (ap (λ (k : ℕ). value_from k cs) (omega arith))

pub value_hex : (v : ℕ) → v < 2 ^ 64 → value_of (hex digits v) ≡ v
unfolding value_of value_from
value_hex v h = ap (value_from 0) (sym (append-nil (hex digits v))) ∙ from_hex digits v [] h

-- ---- read and written back

-- others read behind a number of k digits
hex_from : (cs : List ℕ) (k v : ℕ) → begins (replicate (length cs) any_digit) cs ≡ true → hex (k + length cs) (value_from v cs) ≡ hex k v ++ cs
unfolding hex value_from begins
hex_from [] k v h = ap (λ (n : ℕ). hex n v) (add-zero k) ∙ sym (append-nil (hex k v))
hex_from (c ∷ cs) k v h =
    let parts = both (is_digit c) (begins (replicate (length cs) any_digit) cs) h in
    let small = digit_below c in
    ap (λ (n : ℕ). hex n (value_from (v * 16 + digit_value c) cs)) (add-suc k (length cs) ∙ sym (suc-add k (length cs)))
    ∙ hex_from cs (suc k) (v * 16 + digit_value c) parts.1
    ∙ ap₂ (λ (q r : ℕ). hex k q ++ (digit r ∷ []) ++ cs) (omega arith) (omega arith)
    ∙ append_assoc (hex k v) (digit (digit_value c) ∷ []) cs
    ∙ ap (λ (d : ℕ). hex k v ++ (d ∷ cs)) (value_digit c parts.0)

pub hex_value : (cs : List ℕ) → length cs ≡ digits → begins (replicate digits any_digit) cs ≡ true → hex digits (value_of cs) ≡ cs
unfolding hex value_of
hex_value cs e h =
    ap (λ (n : ℕ). hex n (value_from 0 cs)) (sym e ∙ sym (zero-add (length cs))) ∙ hex_from cs 0 0 (rw e h)
