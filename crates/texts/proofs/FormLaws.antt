-- A text that begins with a form: how it splits where the form does, how long it is, and what its first line is. Assumes nothing.
use Prim.Native.Nat.{ℕ, zero, suc, ◌<◌, ◌≤◌}
use mathlib.Core.Path.{◌≡◌, refl, sym, ap, ap₂, ◌∙◌}
use mathlib.Core.Bool.{Bool, true, false, false≢true, not, ◌&&◌, and_assoc, and-false}
use mathlib.Core.List.{List, [], ◌∷◌, ◌++◌}
use native.Mathlib.Omega.{arith}
use lib.ListN.{length, take, drop}
use lib.Seq.{drop_at}
use lib.Dec.{eqb}
use borrow.Author.Tests.{eqb-true, eq-eqb, ne_eqb, not-true}
use Rattle.texts.specs.Digits.{line_feed, is_digit}
use Rattle.texts.specs.Fields.{joined, in_front, lines, any_digit, fits_mark, begins}
use Rattle.texts.proofs.DigitLaws.{both, and_both}

-- ---- forms

pub begins_room : (marks u : List ℕ) → begins marks u ≡ true → length marks ≤ length u
unfolding begins
begins_room [] u h = omega arith
begins_room (m ∷ ms) [] h = absurd (false≢true h)
begins_room (m ∷ ms) (c ∷ cs) h = let rest = begins_room ms cs (both (fits_mark m c) (begins ms cs) h).1 in omega arith

pub begins_short : (marks u : List ℕ) → length u < length marks → begins marks u ≡ false
unfolding begins
begins_short [] u short = absurd (omega arith)
begins_short (m ∷ ms) [] short = refl
begins_short (m ∷ ms) (c ∷ cs) short = rw (begins_short ms cs (omega arith), and-false)

-- only as many characters count as the form has
pub begins_take : (marks u : List ℕ) (n : ℕ) → length marks ≤ n → begins marks (take n u) ≡ begins marks u
unfolding begins
begins_take [] u n h = refl
begins_take (m ∷ ms) u zero h = absurd (omega arith)
begins_take (m ∷ ms) [] (suc n) h = refl
begins_take (m ∷ ms) (c ∷ cs) (suc n) h = ap (λ (t : Bool). fits_mark m c && t) (begins_take ms cs n (omega arith))

-- more text behind it
pub begins_more : (marks u v : List ℕ) → begins marks u ≡ true → begins marks (u ++ v) ≡ true
unfolding begins
begins_more [] u v h = refl
begins_more (m ∷ ms) [] v h = absurd (false≢true h)
begins_more (m ∷ ms) (c ∷ cs) v h =
    let parts = both (fits_mark m c) (begins ms cs) h in and_both parts.0 (begins_more ms cs v parts.1)

-- a form in two parts
pub begins_append : (a b u : List ℕ) → begins (a ++ b) u ≡ (begins a u && begins b (drop (length a) u))
unfolding begins
begins_append [] b u = refl
begins_append (m ∷ ms) b [] = refl
begins_append (m ∷ ms) b (c ∷ cs) =
    ap (λ (t : Bool). fits_mark m c && t) (begins_append ms b cs) ∙ sym (and_assoc (fits_mark m c) (begins ms cs) (begins b (drop (length ms) cs)))

pub begins_parts : (a b u : List ℕ) → begins (a ++ b) u ≡ true → (begins a u ≡ true) × (begins b (drop (length a) u) ≡ true)
begins_parts a b u h = both (begins a u) (begins b (drop (length a) u)) (sym (begins_append a b u) ∙ h)

-- each part of the text in its own part of the form
pub begins_both : (a b x y : List ℕ) → length x ≡ length a → begins a x ≡ true → begins b y ≡ true → begins (a ++ b) (x ++ y) ≡ true
begins_both a b x y e h k =
    begins_append a b (x ++ y)
    ∙ and_both (begins_more a x y h) (ap (begins b) (drop_at x y (length a) e) ∙ k)

-- ---- marks that stand for themselves

-- a character that is none of these
unfoldable pub lacks : ℕ → List ℕ → Bool
lacks c [] = true
lacks c (m ∷ ms) = not (eqb m c) && lacks c ms

pub lacks_append : (c : ℕ) (a b : List ℕ) → lacks c a ≡ true → lacks c b ≡ true → lacks c (a ++ b) ≡ true
unfolding lacks
lacks_append c [] b h k = k
lacks_append c (m ∷ ms) b h k =
    let parts = both (not (eqb m c)) (lacks c ms) h in and_both parts.0 (lacks_append c ms b parts.1 k)

other_mark : (c m : ℕ) (ms : List ℕ) → lacks c (m ∷ ms) ≡ true → (eqb m c ≡ false) × (lacks c ms ≡ true)
unfolding lacks
other_mark c m ms h = let parts = both (not (eqb m c)) (lacks c ms) h in (not-true (eqb m c) parts.0, parts.1)

pub letters_begin : (a : List ℕ) → lacks any_digit a ≡ true → begins a a ≡ true
unfolding begins
letters_begin [] h = refl
letters_begin (m ∷ ms) h = let other = other_mark any_digit m ms h in rw (other.0, eq-eqb m m refl) (letters_begin ms other.1)

pub begins_letters : (a u : List ℕ) → lacks any_digit a ≡ true → begins a u ≡ true → a ++ drop (length a) u ≡ u
unfolding begins
begins_letters [] u h k = refl
begins_letters (m ∷ ms) [] h k = absurd (false≢true k)
begins_letters (m ∷ ms) (c ∷ cs) h k =
    let other = other_mark any_digit m ms h in
    let parts = both (eqb c m) (begins ms cs) (rw other.0 at k) in
    ap₂ (λ (d : ℕ) (ds : List ℕ). d ∷ ds) (sym (eqb-true c m parts.0)) (begins_letters ms cs other.1 parts.1)

-- ---- the first line

no_feed : (m c : ℕ) → eqb m line_feed ≡ false → fits_mark m c ≡ true → eqb c line_feed ≡ false
unfolding is_digit
no_feed m c h k = go (eqb m any_digit) refl
  where
    go : (b : Bool) → eqb m any_digit ≡ b → eqb c line_feed ≡ false
    go true e = ne_eqb c line_feed (λ q. false≢true (rw (e, q) at k))
    go false e = ap (λ (n : ℕ). eqb n line_feed) (eqb-true c m (rw e at k)) ∙ h

-- up to the first line feed
pub lines_begins : (marks u : List ℕ) → lacks line_feed marks ≡ true → begins (marks ++ (line_feed ∷ [])) u ≡ true
    → lines u ≡ take (suc (length marks)) u ∷ lines (drop (suc (length marks)) u)
unfolding begins lines
lines_begins [] [] p h = absurd (false≢true h)
lines_begins [] (c ∷ cs) p h = rw (both (eqb c line_feed) true h).0
lines_begins (m ∷ ms) [] p h = absurd (false≢true h)
lines_begins (m ∷ ms) (c ∷ cs) p h =
    let other = other_mark line_feed m ms p in
    let parts = both (fits_mark m c) (begins (ms ++ (line_feed ∷ [])) cs) h in
    rw (no_feed m c other.0 parts.0, lines_begins ms cs other.1 parts.1)

-- ---- the lines of a text, joined

joined_before : (c : ℕ) (ls : List (List ℕ)) → joined (in_front c ls) ≡ c ∷ joined ls
unfolding joined
joined_before c [] = refl
joined_before c (l ∷ ls) = refl

pub joined_lines : (t : List ℕ) → joined (lines t) ≡ t
unfolding joined lines
joined_lines [] = refl
joined_lines (c ∷ cs) = go (eqb c line_feed) refl (joined_lines cs)
  where
    go : (b : Bool) → eqb c line_feed ≡ b → joined (lines cs) ≡ cs → joined (lines (c ∷ cs)) ≡ c ∷ cs
    go true e h = rw (e, h)
    go false e h = rw (e, joined_before, h)
