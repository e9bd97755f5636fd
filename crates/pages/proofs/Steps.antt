-- The turns of the loops: what each definition that recurs gives from a place on, in the terms of the code. Assumes nothing.
use Rattle.std.proofs.Common.{◌≡◌, ℕ, ◌+◌, ◌-◌, ◌<◌, ◌≤◌, sym, ◌∙◌, ap, refl, Bool, true, false, cond, ◌||◌, List, None, length, get_or, take, drop, length-drop, drop_of_length-le, drop-cons, take_all, add-one, arith, eq-eqb, ne_eqb}
use Rattle.std.specs.List.{list_any}
use Rattle.pages.specs.Pages.{page_of, on_page, repeated, in_page, spot_from}

pub on_page_lem : (page entry : ℕ) → page_of entry ≡ page → on_page page entry ≡ true
unfolding on_page
on_page_lem page entry e = eq-eqb _ _ e

pub off_page : (page entry : ℕ) → (page_of entry ≡ page → ⊥) → on_page page entry ≡ false
unfolding on_page
off_page page entry e = ne_eqb _ _ e

-- the part of a list from its i-th element on, as the code lends it
rest_whole : (pages : List ℕ) (i : ℕ) → take (length pages - i) (drop i pages) ≡ drop i pages
rest_whole pages i = take_all (length pages - i) (drop i pages) (simp length-drop (omega arith))

pub rest_any : (pages : List ℕ) (i : ℕ) (test : ℕ → Bool) (r : Bool) → r ≡ list_any test (take (length pages - i) (drop i pages)) → list_any test (drop i pages) ≡ r
rest_any pages i test r e = ap (list_any test) (sym (rest_whole pages i)) ∙ sym e

-- ---- a list from the i-th entry on

module _ (pages : List ℕ) (i : ℕ) (more : i < length pages) where
  pub any_turn : (test : ℕ → Bool) → list_any test (drop i pages) ≡ (test (get_or pages i 0) || list_any test (drop (i + 1) pages))
  any_turn test = rw (add-one i, drop-cons pages i 0 more) refl

  pub repeated_turn : repeated (drop i pages) ≡ (list_any (on_page (page_of (get_or pages i 0))) (drop (i + 1) pages) || repeated (drop (i + 1) pages))
  unfolding repeated
  repeated_turn = rw (add-one i, drop-cons pages i 0 more) refl

  pub spot_turn : (lent address : ℕ)
      → spot_from i (drop i pages) lent address
      ≡ cond (on_page (page_of address) (get_or pages i 0)) (in_page i (get_or pages i 0) lent address) (spot_from (i + 1) (drop (i + 1) pages) lent address)
  unfolding spot_from
  spot_turn lent address = rw (add-one i, drop-cons pages i 0 more) refl

module _ (pages : List ℕ) (i : ℕ) (end : length pages ≤ i) where
  pub any_end : (test : ℕ → Bool) → list_any test (drop i pages) ≡ false
  any_end test = rw (drop_of_length-le pages end) refl

  pub repeated_end : repeated (drop i pages) ≡ false
  unfolding repeated
  repeated_end = rw (drop_of_length-le pages end) refl

  pub spot_end : (lent address : ℕ) → spot_from i (drop i pages) lent address ≡ None
  unfolding spot_from
  spot_end lent address = rw (drop_of_length-le pages end) refl
