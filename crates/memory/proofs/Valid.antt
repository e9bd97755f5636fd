-- What a valid page list has, and that each of its pages is found. Assumes nothing.
use Rattle.std.proofs.Common.{ℕ, zero, suc, ◌+◌, ◌*◌, ◌/◌, ◌%◌, ◌<◌, ◌≡◌, refl, sym, ◌∙◌, ap, Bool, true, false, true≢false, List, [], ◌∷◌, length, get_or, Some, None, Ok, arith, lt-ltb, eqb-true}
use Rattle.std.specs.List.{list_any}
use Rattle.std.proofs.lemmas.List.Folds.{list_any_at}
use Rattle.pages.specs.Pages.{page_bytes, page_of, kind_of, on_page, repeated, listing, in_page, spot_from, spot}
use Rattle.pages.proofs.Laws.{neither, valid_list}
use Rattle.pages.proofs.Steps.{on_page_lem}

-- ---- what a valid list has

pub record Good (pages : List ℕ) (lent : ℕ) : Type 0 where
  pub lent_is : lent ≡ page_bytes * length pages
  pub apart : repeated pages ≡ false

pub valid : (pages : List ℕ) (lent : ℕ) → listing pages lent ≡ Ok tt → Good pages lent
valid pages lent e = let rules = valid_list pages lent e in record { lent_is = rules.whole; apart = rules.apart }

-- ---- every entry is found

-- an entry before the j-th is not on the j-th's page
off_page_before : (entry : ℕ) (rest : List ℕ) (j address : ℕ) → list_any (on_page (page_of entry)) rest ≡ false → j < length rest → page_of (get_or rest j 0) ≡ page_of address
    → on_page (page_of address) entry ≡ false
unfolding on_page
off_page_before entry rest j address none h on = go (on_page (page_of address) entry) refl
  where
    go : (t : Bool) → on_page (page_of address) entry ≡ t → t ≡ false
    go true t = absurd (true≢false (sym (list_any_at (on_page (page_of entry)) rest j 0 h (on_page_lem (page_of entry) (get_or rest j 0) (on ∙ sym (eqb-true (page_of entry) (page_of address) t)))) ∙ none))
    go false t = refl

pub every_entry : (pages : List ℕ) (i lent address j : ℕ) → repeated pages ≡ false → j < length pages → page_of (get_or pages j 0) ≡ page_of address → i + j < lent / page_bytes
    → spot_from i pages lent address ≡ Some (record { kind = kind_of (get_or pages j 0); place = page_bytes * (i + j) + address % page_bytes })
unfolding spot_from repeated in_page
every_entry [] i lent address j once h on whole = absurd (omega arith)
every_entry (entry ∷ rest) i lent address zero once h on whole =
    let first : i + 0 ≡ i = omega arith in
    rw (on_page_lem (page_of address) entry on, first, lt-ltb i (lent / page_bytes) (omega arith))
every_entry (entry ∷ rest) i lent address (suc j) once h on whole =
    let both = neither (list_any (on_page (page_of entry)) rest) (repeated rest) once in
    let next : i + suc j ≡ suc i + j = omega arith in
    rw (off_page_before entry rest j address both.0 (omega arith) on, next) (every_entry rest (suc i) lent address j both.1 (omega arith) on (omega arith))

-- the page of every entry of a valid list is found, and by that entry
pub listed : (pages : List ℕ) (lent address j : ℕ) → Good pages lent → j < length pages → page_of (get_or pages j 0) ≡ page_of address
    → spot pages lent address ≡ Some (record { kind = kind_of (get_or pages j 0); place = page_bytes * j + address % page_bytes })
unfolding spot
listed pages lent address j good h on =
    let lent_is = good.lent_is in
    let first : 0 + j ≡ j = omega arith in
    every_entry pages 0 lent address j good.apart h on (omega arith) ∙ ap (λ (n : ℕ). Some (record { kind = kind_of (get_or pages j 0); place = page_bytes * n + address % page_bytes })) first

-- an address whose page no entry has leads nowhere
no_entry : (pages : List ℕ) (i lent address : ℕ) → list_any (on_page (page_of address)) pages ≡ false → spot_from i pages lent address ≡ None
unfolding spot_from
no_entry [] i lent address none = refl
no_entry (entry ∷ rest) i lent address none =
    let both = neither (on_page (page_of address) entry) (list_any (on_page (page_of address)) rest) none in
    rw both.0 (no_entry rest (suc i) lent address both.1)

pub unlisted : (pages : List ℕ) (lent address : ℕ) → list_any (on_page (page_of address)) pages ≡ false → spot pages lent address ≡ None
unfolding spot
unlisted pages lent address none = no_entry pages 0 lent address none
