-- The entry behind each answer of `spot`. From it: every place is among the lent bytes, and its page is lent whole. Assumes nothing.
use Rattle.std.proofs.Common.{◌≡◌, ℕ, suc, ◌+◌, ◌-◌, ◌*◌, ◌/◌, ◌%◌, ◌<◌, ◌≤◌, refl, ◌∙◌, ap, Bool, true, false, cond, List, [], ◌∷◌, length, get_or, ltb, Some, None, arith}
use borrow.Author.Tests.{ltb-true, eqb-true}
use Rattle.pages.specs.Pages.{page_bytes, page_of, kind_of, on_page, in_page, spot_from, spot}
use Rattle.pages.specs.declared.pages.Spot.{Spot}

-- the entry that an address is found by: the j-th of the list
pub record Found (pages : List ℕ) (i lent address : ℕ) (s : Spot) : Type 0 where
  pub j : ℕ
  pub listed : j < length pages
  pub on : page_of (get_or pages j 0) ≡ page_of address
  pub kind_is : kind_of (get_or pages j 0) ≡ s.kind
  pub lent_whole : i + j < lent / page_bytes
  pub place_is : s.place ≡ page_bytes * (i + j) + address % page_bytes

here : (i entry : ℕ) (rest : List ℕ) (lent address : ℕ) (s : Spot) → page_of entry ≡ page_of address → in_page i entry lent address ≡ Some s → Found (entry ∷ rest) i lent address s
unfolding in_page
here i entry rest lent address s on e = go (ltb i (lent / page_bytes)) refl e
  where
    at : Spot
    at = record { kind = kind_of entry; place = page_bytes * i + address % page_bytes }

    go : (t : Bool) → ltb i (lent / page_bytes) ≡ t → cond t (Some at) None ≡ Some s → Found (entry ∷ rest) i lent address s
    go true t q =
        let same : at ≡ s = cc in
        let k : kind_of entry ≡ s.kind = ap (λ (x : Spot). x.kind) same in
        let p : page_bytes * i + address % page_bytes ≡ s.place = ap (λ (x : Spot). x.place) same in
        record { j = 0; listed = omega arith; on = on; kind_is = k; lent_whole = omega (arith, ltb-true i (lent / page_bytes) t); place_is = omega arith }
    go false t q = let z : ◌≡◌ {A = ℕ} 0 1 = cc in absurd (omega arith)

there : (i entry : ℕ) (rest : List ℕ) (lent address : ℕ) (s : Spot) → Found rest (suc i) lent address s → Found (entry ∷ rest) i lent address s
there i entry rest lent address s f =
    record {
      j = suc f.j;
      listed = omega arith;
      on = f.on;
      kind_is = f.kind_is;
      lent_whole = omega arith;
      place_is = f.place_is ∙ ap (λ (n : ℕ). page_bytes * n + address % page_bytes) (omega arith);
    }

step : (i entry : ℕ) (rest : List ℕ) (lent address : ℕ) (s : Spot) → (spot_from (suc i) rest lent address ≡ Some s → Found rest (suc i) lent address s)
    → (t : Bool) → on_page (page_of address) entry ≡ t → cond t (in_page i entry lent address) (spot_from (suc i) rest lent address) ≡ Some s → Found (entry ∷ rest) i lent address s
unfolding on_page
step i entry rest lent address s later true t q = here i entry rest lent address s (eqb-true _ _ t) q
step i entry rest lent address s later false t q = there i entry rest lent address s (later q)

pub found : (pages : List ℕ) (i lent address : ℕ) (s : Spot) → spot_from i pages lent address ≡ Some s → Found pages i lent address s
unfolding spot_from
found [] i lent address s e = let z : ◌≡◌ {A = ℕ} 0 1 = cc in absurd (omega arith)
found (entry ∷ rest) i lent address s e = step i entry rest lent address s (found rest (suc i) lent address s) (on_page (page_of address) entry) refl e

-- ---- what every answer has

module _ (pages : List ℕ) (lent address : ℕ) (s : Spot) (e : spot pages lent address ≡ Some s) where
  pub behind : Found pages 0 lent address s
  unfolding spot
  behind = found pages 0 lent address s e

  pub spot_inside : s.place < lent
  spot_inside = let f = behind in omega arith

  -- the whole page that the place lies on is lent
  pub spot_page : s.place - s.place % page_bytes + page_bytes ≤ lent
  spot_page = let f = behind in omega arith
