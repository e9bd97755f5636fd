-- The turns of the loops: what each definition gives from a place on, in the terms of the code. Assumes nothing.
use Prim.Native.Nat.{ℕ, ◌+◌, ◌-◌, ◌*◌, ◌/◌, ◌%◌, ◌^◌, ◌<◌, ◌≤◌}
use mathlib.Core.Path.{◌≡◌, refl, ap, ◌∙◌}
use mathlib.Core.Bool.{Bool, true, false, cond, and_assoc, ◌&&◌}
use mathlib.Core.List.{List, [], ◌∷◌, ◌++◌}
use native.Mathlib.Nat.{pow-suc, pow-le-pow_right}
use native.Mathlib.Numerals.{add-one}
use native.Mathlib.Omega.{arith}
use lib.Dec.{lit<, eqb}
use lib.ListN.{length, get_or, take, drop, set, replicate, length-drop, drop_of_length-le}
use lib.Seq.{drop-cons, length-take-le}
use Rattle.texts.specs.Digits.{digit, is_digit, digit_value, hex, number, tab, line_feed, letter_x, value_from, value_of}
use Rattle.numbers.specs.Numbers.{inside}
use Rattle.numbers.specs.Buffers.{laid, laid_if}
use Rattle.numbers.proofs.Laws.{ends_inside, laid_if_lem, length_laid, laid_last, laid_nil, laid_turn}
use Rattle.texts.specs.Fields.{any_digit, number_form, begins, numeral, fields, line_of}
use Rattle.std.specs.Prelude.{Option, Some, None}
use Rattle.std.specs.Bool.{then_some}
use Rattle.texts.proofs.DigitLaws.{hex_length, number_length}
use Rattle.texts.proofs.Fields.{fields_length, line_long}
use Rattle.texts.proofs.FormLaws.{begins_short, begins_take}
use borrow.Author.Tests.{leb-false}

-- ---- a number at a place

-- what characters give behind those that were read before: these were good or not, and made v
unfoldable pub digits_from : Bool → ℕ → List ℕ → Option ℕ
digits_from good v u = cond (good && begins (replicate (length u) any_digit) u) (Some (value_from v u)) None

-- the characters that are read
abbrev pub read : List ℕ → ℕ → List ℕ
read text at = take (at + 1 + 16 - (at + 1)) (drop (at + 1) text)

module _ (text : List ℕ) (at : ℕ) where
  pub no_room : inside (length text) at 17 ≡ false → numeral (drop at text) ≡ None
  unfolding numeral inside
  no_room short =
      let less = leb-false (at + 17) (length text) short in
      let left = length-drop at text in rw (begins_short number_form (drop at text) (omega arith))

  sixteen : at + 1 + 16 - (at + 1) ≡ 16
  sixteen = omega arith

  pub read_length : at + 17 ≤ length text → length (read text at) ≡ 16
  read_length room = rw sixteen (let left = length-drop (at + 1) text in length-take-le 16 (drop (at + 1) text) (omega arith))

  pub digits_start : at + 17 ≤ length text → numeral (drop at text) ≡ digits_from (eqb (get_or text at 0) letter_x) 0 (read text at)
  unfolding numeral begins digits_from value_of
  digits_start room =
      rw (read_length room, sixteen, begins_take (replicate 16 any_digit) (drop (at + 1) text) 16 (omega arith)) (rw (add-one at, drop-cons text at 0 (omega arith)))

pub digits_turn : (u : List ℕ) (good : Bool) (i v : ℕ) → i < length u
    → let c = get_or u i 0 in digits_from good v (drop i u) ≡ digits_from (good && is_digit c) (v * 16 + digit_value c) (drop (i + 1) u)
unfolding digits_from begins value_from
digits_turn u good i v more = rw (add-one i, drop-cons u i 0 more, and_assoc)

pub digits_end : (u : List ℕ) (good : Bool) (i v : ℕ) → length u ≤ i → digits_from good v (drop i u) ≡ then_some good v
unfolding digits_from begins value_from
digits_end u true i v end = rw (drop_of_length-le u end)
digits_end u false i v end = refl

-- i digits make a number below 16 ^ i, and one digit more fits where that is the 16th at most
pub value_room : (v i : ℕ) → v < 16 ^ i → i < 16 → v * 16 + 15 < 2 ^ 64
value_room v i below more =
    let most : 16 ^ i ≤ 16 ^ 15 = pow-le-pow_right (lit< tt) {i = i} {j = 15} (omega arith) in
    omega arith

pub value_grows : (v i d : ℕ) → v < 16 ^ i → d < 16 → v * 16 + d < 16 ^ (i + 1)
value_grows v i d below small = rw (add-one i, pow-suc 16 i) (omega arith)

-- ---- digits, written from the right

pub hex_turn : (out : List ℕ) (at n v : ℕ) → at + n < length out → laid out at (hex (n + 1) v) ≡ laid (set out (at + n) (digit (v % 16))) at (hex n (v / 16))
unfolding hex
hex_turn out at n v room =
    let long : length (hex n (v / 16)) ≡ n = hex_length n (v / 16) in
    let there : at + length (hex n (v / 16)) < length out = rw long room in
    rw (add-one n) (laid_last out at (hex n (v / 16)) (digit (v % 16)) there ∙ ap (λ (m : ℕ). laid (set out (at + m) (digit (v % 16))) at (hex n (v / 16))) long)

pub hex_end : (out : List ℕ) (at n v : ℕ) → n ≤ 0 → laid out at (hex n v) ≡ out
unfolding hex
hex_end out at n v end = let none : n ≡ 0 = omega arith in rw none (laid_nil out at)

-- ---- fields

pub fields_turn : (out : List ℕ) (at : ℕ) (values : List ℕ) (i : ℕ) → i < length values → at + 18 * i + 18 ≤ length out
    → laid out (at + 18 * i) (fields (drop i values))
    ≡ laid (laid out (at + 18 * i) (tab ∷ number (get_or values i 0))) (at + 18 * (i + 1)) (fields (drop (i + 1) values))
unfolding fields
fields_turn out at values i more room =
    let v : ℕ = get_or values i 0 in
    let long : at + 18 * i + length (tab ∷ number v) ≡ at + 18 * (i + 1) = rw (number_length v) (omega arith) in
    let fit : at + 18 * i + length (tab ∷ number v) ≤ length out = rw (number_length v) (omega arith) in
    let next : fields (drop i values) ≡ (tab ∷ number v) ++ fields (drop (i + 1) values) = rw (add-one i, drop-cons values i 0 more) in
    rw (next, laid_turn out (at + 18 * i) (tab ∷ number v) (fields (drop (i + 1) values)) fit, long)

pub fields_end : (out : List ℕ) (at : ℕ) (values : List ℕ) (i : ℕ) → length values ≤ i → laid out at (fields (drop i values)) ≡ out
unfolding fields
fields_end out at values i end = rw (drop_of_length-le values end) (laid_nil out at)

-- ---- a line

-- as it is laid: its name, its fields, the line feed
pub line_put : (named vs out out₁ out₂ out₃ : List ℕ) (at : ℕ) → inside (length out) at (length named + 18 * length vs + 1) ≡ true
    → out₁ ≡ laid_if out at named
    → out₂ ≡ laid out₁ (at + length named) (fields vs)
    → out₃ ≡ laid_if out₂ (at + (length named + 18 * length vs)) (line_feed ∷ [])
    → out₃ ≡ laid_if out at (line_of named vs)
line_put named vs out out₁ out₂ out₃ at fits e₁ e₂ e₃ =
    let room = ends_inside (length out) at (length named + 18 * length vs + 1) fits in
    let whole : at + length (line_of named vs) ≤ length out = rw (line_long named vs) room in
    let e : out₁ ≡ laid out at named = e₁ ∙ laid_if_lem out at named (omega arith) in
    let kept : length out₁ ≡ length out = rw e (length_laid out at named (omega arith)) in
    let ended : at + (length named + 18 * length vs) ≡ at + length named + length (fields vs) = rw (fields_length vs) (omega arith) in
    let long : at + length named + length (fields vs) ≤ length out₁ = rw (kept, fields_length vs) (omega arith) in
    let kept₂ : length out₂ ≡ length out₁ = rw e₂ (length_laid out₁ (at + length named) (fields vs) long) in
    let last = laid_if_lem out₂ (at + (length named + 18 * length vs)) (line_feed ∷ []) (omega arith) in
    let behind = laid_turn out₁ (at + length named) (fields vs) (line_feed ∷ []) long in
    let first = laid_turn out at named (fields vs ++ (line_feed ∷ [])) (omega arith) in
    e₃ ∙ last ∙ rw (ended, e₂, ← behind, e, ← first, laid_if_lem out at (line_of named vs) whole)
