-- Where a page lies, and what a page list has that breaks no rule, by the places of the entries. Assumes nothing.
use Rattle.std.proofs.Common.{◌≡◌, ℕ, zero, suc, ◌+◌, ◌*◌, ◌/◌, ◌%◌, ◌^◌, ◌<◌, ◌≤◌, refl, sym, ap, Bool, true, false, not, cond, ◌||◌, true≢false, List, [], ◌∷◌, length, get_or, eqb, ltb, Result, Ok, Err, arith, lt-ltb, le-ltb, eq-eqb, ne_eqb, eqb-true, ltb-false}
use borrow.Author.Tests.{eqb-false, not-false}
use Rattle.std.specs.List.{list_any}
use Rattle.pages.specs.Pages.{page_bytes, page_limit, page_of, wrong_length, bad_kind, bad_address, on_page, repeated, listing}
use Rattle.pages.specs.declared.pages.ListError.{ListError}
use Rattle.pages.specs.declared.pages.ListError.TheVariants.{BadLength, BadKind, BadAddress, Repeated}

-- ---- a page

-- an address is its page's address and the offset there
pub page_and_offset : (n : ℕ) → page_of n + n % page_bytes ≡ n
unfolding page_of
page_and_offset n = omega arith

-- a page of 64-bit addresses ends at 2^64 or before
pub page_end : (n : ℕ) → n < 2 ^ 64 → page_of n + page_bytes ≤ 2 ^ 64
unfolding page_of
page_end n h = omega arith

-- ---- a test of every entry

-- neither of two tests found anything
pub neither : (a b : Bool) → (a || b) ≡ false → (a ≡ false) × (b ≡ false)
neither true b e = absurd (true≢false e)
neither false b e = (refl, e)

-- no entry passes the test, by their places
abbrev pub EachFails : (ℕ → Bool) → List ℕ → Type 0
EachFails test entries = (i : ℕ) → i < length entries → test (get_or entries i 0) ≡ false

pub none_passes : (test : ℕ → Bool) (entries : List ℕ) → list_any test entries ≡ false → EachFails test entries
none_passes test [] e i h = absurd (omega arith)
none_passes test (entry ∷ rest) e zero h = (neither (test entry) (list_any test rest) e).0
none_passes test (entry ∷ rest) e (suc i) h = none_passes test rest (neither (test entry) (list_any test rest) e).1 i (omega arith)

pub each_fails : (test : ℕ → Bool) (entries : List ℕ) → EachFails test entries → list_any test entries ≡ false
each_fails test [] each = refl
each_fails test (entry ∷ rest) each = rw (each 0 (omega arith)) (each_fails test rest (λ i h. each (suc i) (omega arith)))

-- ---- equal addresses

-- entries of one page are one entry: by their places, and by the page's number, counted from address 0
abbrev pub Apart : List ℕ → Type 0
Apart entries = (i j : ℕ) → i < length entries → j < length entries → get_or entries i 0 / page_bytes ≡ get_or entries j 0 / page_bytes → i ≡ j

same_number : (a b : ℕ) → b / page_bytes * page_bytes ≡ a / page_bytes * page_bytes → a / page_bytes ≡ b / page_bytes
same_number a b e = omega arith

-- the first entry's page is no other's, and so on
once_parts : (entry : ℕ) (rest : List ℕ) → repeated (entry ∷ rest) ≡ false → (list_any (on_page (page_of entry)) rest ≡ false) × (repeated rest ≡ false)
unfolding repeated
once_parts entry rest once = neither (list_any (on_page (page_of entry)) rest) (repeated rest) once

first_apart : (entry : ℕ) (rest : List ℕ) → repeated (entry ∷ rest) ≡ false → (j : ℕ) → j < length rest → entry / page_bytes ≡ get_or rest j 0 / page_bytes → ⊥
unfolding on_page page_of
first_apart entry rest once j k e =
    eqb-false _ _ (none_passes (on_page (page_of entry)) rest (once_parts entry rest once).0 j k) (ap (λ (n : ℕ). n * page_bytes) (sym e))

pub once_apart : (entries : List ℕ) → repeated entries ≡ false → Apart entries
once_apart [] once i j h k e = absurd (omega arith)
once_apart (entry ∷ rest) once zero zero h k e = refl
once_apart (entry ∷ rest) once zero (suc j) h k e = absurd (first_apart entry rest once j (omega arith) e)
once_apart (entry ∷ rest) once (suc i) zero h k e = absurd (first_apart entry rest once i (omega arith) (sym e))
once_apart (entry ∷ rest) once (suc i) (suc j) h k e = ap suc (once_apart rest (once_parts entry rest once).1 i j (omega arith) (omega arith) e)

pub apart_once : (entries : List ℕ) → Apart entries → repeated entries ≡ false
unfolding repeated on_page page_of
apart_once [] apart = refl
apart_once (entry ∷ rest) apart =
    rw (each_fails (on_page (page_of entry)) rest (λ j h. ne_eqb _ _ (λ same. first j h (same_number entry (get_or rest j 0) same))))
    (apart_once rest (λ i j h k e. let same : suc i ≡ suc j = apart (suc i) (suc j) (omega arith) (omega arith) e in omega arith))
  where
    first : (j : ℕ) → j < length rest → entry / page_bytes ≡ get_or rest j 0 / page_bytes → ⊥
    first j h e = let same : 0 ≡ suc j = apart 0 (suc j) (omega arith) (omega arith) e in omega arith

-- ---- a valid list

-- it breaks none of the four rules
pub record ValidList (entries : List ℕ) (lent : ℕ) : Type 0 where
  pub few : length entries ≤ page_limit
  pub whole : lent ≡ page_bytes * length entries
  pub kinds : list_any bad_kind entries ≡ false
  pub addresses : list_any bad_address entries ≡ false
  pub apart : repeated entries ≡ false

none_broken : (a b c d : Bool) → ◌≡◌ {A = Result (Unit {0}) ListError} (cond a (Err BadLength) (cond b (Err BadKind) (cond c (Err BadAddress) (cond d (Err Repeated) (Ok tt))))) (Ok tt)
    → (a ≡ false) × (b ≡ false) × (c ≡ false) × (d ≡ false)
none_broken true b c d e = let z : ◌≡◌ {A = ℕ} 0 1 = cc in absurd (omega arith)
none_broken false true c d e = let z : ◌≡◌ {A = ℕ} 0 1 = cc in absurd (omega arith)
none_broken false false true d e = let z : ◌≡◌ {A = ℕ} 0 1 = cc in absurd (omega arith)
none_broken false false false true e = let z : ◌≡◌ {A = ℕ} 0 1 = cc in absurd (omega arith)
none_broken false false false false e = (refl, refl, refl, refl)

pub valid_list : (entries : List ℕ) (lent : ℕ) → listing entries lent ≡ Ok tt → ValidList entries lent
unfolding listing wrong_length
valid_list entries lent e =
    let tests = none_broken (wrong_length (length entries) lent) (list_any bad_kind entries) (list_any bad_address entries) (repeated entries) e in
    let right = neither (ltb page_limit (length entries)) (not (eqb lent (page_bytes * length entries))) tests.0 in
    record {
      few = ltb-false page_limit (length entries) right.0;
      whole = eqb-true lent (page_bytes * length entries) (not-false _ right.1);
      kinds = tests.1;
      addresses = tests.2;
      apart = tests.3;
    }

pub list_valid : (entries : List ℕ) (lent : ℕ) → ValidList entries lent → listing entries lent ≡ Ok tt
unfolding listing wrong_length
list_valid entries lent h = rw (le-ltb page_limit (length entries) h.few, eq-eqb lent (page_bytes * length entries) h.whole, h.kinds, h.addresses, h.apart)

-- refusal 1 comes before all else
pub too_many_entries : (entries : List ℕ) (lent : ℕ) → page_limit < length entries → listing entries lent ≡ Err BadLength
unfolding listing wrong_length
too_many_entries entries lent more = rw (lt-ltb page_limit (length entries) more)
