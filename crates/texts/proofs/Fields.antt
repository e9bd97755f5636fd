-- The numbers of a line, each behind a tab: how long they are, their form, and that reading and writing them are inverse. By the
-- number of fields. Assumes nothing.
use Prim.Native.Nat.{ℕ, zero, suc, ◌+◌, ◌*◌, ◌/◌, ◌%◌, ◌^◌, ◌<◌}
use mathlib.Core.Path.{◌≡◌, refl, sym, ap, ap₂, ◌∙◌}
use mathlib.Core.Bool.{true, false≢true}
use mathlib.Core.List.{List, [], ◌∷◌, ◌++◌, append_assoc}
use native.Mathlib.Numerals.{add-one}
use native.Mathlib.Omega.{arith}
use lib.ListN.{length, take, drop, get_or, replicate, length-append, length-take, length-replicate, replicate-append-replicate, take-append-drop}
use lib.Dec.{eqb}
use lib.Seq.{drop-drop, take_at, drop_at, length-take-le}
use borrow.Author.Tests.{eqb-true}
use Rattle.texts.specs.Digits.{tab, line_feed, letter_x, digits, digit, hex, number, value_of}
use Rattle.texts.specs.Fields.{fields, line_of, any_digit, number_form, field_forms, begins, values_in}
use Rattle.texts.proofs.DigitLaws.{both, digit_is, hex_length, number_length, value_below, value_hex, hex_value}
use Rattle.texts.proofs.FormLaws.{begins_room, begins_take, begins_parts, begins_both, begins_letters, lacks}

-- ---- lengths

pub fields_length : (vs : List ℕ) → length (fields vs) ≡ 18 * length vs
unfolding fields
fields_length [] = refl
fields_length (v ∷ vs) = rw (length-append, number_length, fields_length vs) (omega arith)

pub forms_length : (n : ℕ) → length (field_forms n) ≡ 18 * n
unfolding field_forms
forms_length zero = refl
forms_length (suc n) = rw (forms_length n) (omega arith)

pub values_length : (n : ℕ) (cs : List ℕ) → length (values_in n cs) ≡ n
unfolding values_in
values_length zero cs = refl
values_length (suc n) cs = ap suc (values_length n (drop 18 cs))

-- of any name
pub line_long : (named vs : List ℕ) → length (line_of named vs) ≡ length named + 18 * length vs + 1
line_long named vs = rw (length-append named (fields vs ++ (line_feed ∷ [])), length-append (fields vs) (line_feed ∷ []), fields_length vs) (omega arith)

-- ---- the form

pub forms_lack_feed : (n : ℕ) → lacks line_feed (field_forms n) ≡ true
unfolding lacks field_forms
forms_lack_feed zero = refl
forms_lack_feed (suc n) = forms_lack_feed n

hex_begins : (n v : ℕ) → begins (replicate n any_digit) (hex n v) ≡ true
unfolding hex begins
hex_begins zero v = refl
hex_begins (suc n) v =
    ap (λ (marks : List ℕ). begins marks (hex (suc n) v)) (sym (replicate-append-replicate n 1 any_digit ∙ ap (λ (k : ℕ). replicate k any_digit) (add-one n)))
    ∙ begins_both (replicate n any_digit) (any_digit ∷ []) (hex n (v / 16)) (digit (v % 16) ∷ []) (hex_length n (v / 16) ∙ sym (length-replicate n any_digit)) (hex_begins n (v / 16))
    (rw (digit_is (v % 16) (omega arith)))

pub number_begins : (v : ℕ) → begins number_form (number v) ≡ true
unfolding number begins
number_begins v = hex_begins digits v

pub fields_begin : (vs : List ℕ) → begins (field_forms (length vs)) (fields vs) ≡ true
unfolding fields number field_forms begins
fields_begin [] = refl
fields_begin (v ∷ vs) =
    begins_both (replicate digits any_digit) (field_forms (length vs)) (hex digits v) (fields vs) (hex_length digits v) (hex_begins digits v) (fields_begin vs)

-- where the i-th number stands, it has a number's form
pub number_in : (n i : ℕ) (u : List ℕ) → begins (field_forms n) u ≡ true → i < n → begins number_form (drop (1 + 18 * i) u) ≡ true
unfolding field_forms
number_in zero i u h less = absurd (omega arith)
number_in (suc n) zero u h less = (begins_parts (tab ∷ []) number_form u (begins_parts (tab ∷ number_form) (field_forms n) u h).0).1
number_in (suc n) (suc i) u h less =
    let place : 18 + (1 + 18 * i) ≡ 1 + 18 * suc i = omega arith in
    ap (begins number_form) (sym (drop-drop (1 + 18 * i) 18 u ∙ ap (λ (k : ℕ). drop k u) place))
    ∙ number_in n i (drop 18 u) (begins_parts (tab ∷ number_form) (field_forms n) u h).1 (omega arith)

-- ---- reading

-- the i-th number
pub value_in : (n i : ℕ) (cs : List ℕ) → i < n → get_or (values_in n cs) i 0 ≡ value_of (take digits (drop (2 + 18 * i) cs))
unfolding values_in
value_in zero i cs h = absurd (omega arith)
value_in (suc n) zero cs h = refl
value_in (suc n) (suc i) cs h =
    let next_at : 18 + (2 + 18 * i) ≡ 2 + 18 * suc i = omega arith in
    value_in n i (drop 18 cs) (omega arith)
    ∙ ap (λ (r : List ℕ). value_of (take digits r)) (drop-drop (2 + 18 * i) 18 cs ∙ ap (λ (k : ℕ). drop k cs) next_at)

pub value_small : (n i : ℕ) (cs : List ℕ) → get_or (values_in n cs) i 0 < 2 ^ 64
unfolding values_in
value_small zero i cs = omega arith
value_small (suc n) zero cs = value_below (take digits (drop 2 cs)) (simp length-take (omega arith))
value_small (suc n) (suc i) cs = value_small n i (drop 18 cs)

-- ---- both ways

pub values_fields : (vs rest : List ℕ) → ((i : ℕ) → get_or vs i 0 < 2 ^ 64) → values_in (length vs) (fields vs ++ rest) ≡ vs
unfolding fields number values_in
values_fields [] rest h = refl
values_fields (v ∷ vs) rest h =
    let front = append_assoc (hex digits v) (fields vs) rest in
    ap₂ (λ (w : ℕ) (ws : List ℕ). w ∷ ws)
    (ap value_of (ap (take digits) front ∙ take_at (hex digits v) (fields vs ++ rest) digits (hex_length digits v)) ∙ value_hex v (h 0))
    (ap (values_in (length vs)) (ap (drop digits) front ∙ drop_at (hex digits v) (fields vs ++ rest) digits (hex_length digits v)) ∙ values_fields vs rest (λ i. h (suc i)))

-- the 16 digits at the front of a text
hex_front : (u : List ℕ) → begins (replicate digits any_digit) u ≡ true → hex digits (value_of (take digits u)) ≡ take digits u
hex_front u h =
    hex_value (take digits u) (length-take-le digits u (begins_room (replicate digits any_digit) u h))
    (begins_take (replicate digits any_digit) u digits (omega arith) ∙ h)

-- a text that begins with a number's form begins with that number
pub number_front : (u : List ℕ) → begins number_form u ≡ true → take 17 u ≡ number (value_of (take digits (drop 1 u)))
unfolding number begins
number_front [] h = absurd (false≢true h)
number_front (c ∷ cs) h =
    let parts = both (eqb c letter_x) (begins (replicate digits any_digit) cs) h in
    ap₂ (λ (d : ℕ) (ds : List ℕ). d ∷ ds) (eqb-true c letter_x parts.0) (sym (hex_front cs parts.1))

pub fields_values : (n : ℕ) (u : List ℕ) → begins (field_forms n) u ≡ true → fields (values_in n u) ++ drop (18 * n) u ≡ u
unfolding fields number values_in field_forms lacks
fields_values zero u h = refl
fields_values (suc n) u h =
    let letters = begins_parts (tab ∷ letter_x ∷ []) (replicate digits any_digit ++ field_forms n) u h in
    let parts = begins_parts (replicate digits any_digit) (field_forms n) (drop 2 u) letters.1 in
    let behind : drop digits (drop 2 u) ≡ drop 18 u = drop-drop digits 2 u in
    let last : 18 * suc n ≡ 18 + 18 * n = omega arith in
    ap (λ (r : List ℕ). tab ∷ letter_x ∷ r)
    (append_assoc (hex digits (value_of (take digits (drop 2 u)))) (fields (values_in n (drop 18 u))) (drop (18 * suc n) u)
    ∙ ap₂ (λ (a b : List ℕ). a ++ b) (hex_front (drop 2 u) parts.0)
    (ap (λ (r : List ℕ). fields (values_in n (drop 18 u)) ++ r) (ap (λ (k : ℕ). drop k u) last ∙ sym (drop-drop (18 * n) 18 u))
    ∙ fields_values n (drop 18 u) (ap (begins (field_forms n)) (sym behind) ∙ parts.1)
    ∙ sym behind)
    ∙ take-append-drop digits (drop 2 u))
    ∙ begins_letters (tab ∷ letter_x ∷ []) u refl letters.0
