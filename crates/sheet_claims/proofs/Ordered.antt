-- The pages in ascending order: the same pages, whatever their order was, and strictly ascending where no two have one address.
-- Assumes nothing.
use Rattle.std.proofs.Common.{◌≡◌, ℕ, zero, suc, ◌<◌, ◌≤◌, Bool, true, false, cond, leb, ◌⊎◌, List, [], ◌∷◌, length, get_or, sym, refl, ap, ◌∙◌, subst, inl, inr, arith, le-leb, leb-false, leb-true}
use mathlib.Core.List.Memᴰ
use mathlib.Core.List.{Memᴰ}
use Rattle.std.specs.List.{list_any}
use Rattle.pages.specs.Pages.{repeated}
use Rattle.pages.proofs.Laws.{none_passes, each_fails, Apart, once_apart, apart_once}
use Rattle.sheet.specs.Sheets.{Page, Ascending, insert, ascended, entries_of}
use Rattle.order.specs.Order.{page_number}

-- ---- every page of a list

abbrev pub Every : (Page → Type 0) → List Page → Type 0
Every P [] = Unit {0}
Every P (p ∷ ps) = P p × Every P ps

pub every_map : (P Q : Page → Type 0) (ps : List Page) → ((p : Page) → P p → Q p) → Every P ps → Every Q ps
every_map P Q [] f h = tt
every_map P Q (p ∷ ps) f h = (f p h.0, every_map P Q ps f h.1)

pub every_mem : (P : Page → Type 0) {p : Page} {ps : List Page} → Every P ps → Memᴰ p ps → P p
every_mem P all (Memᴰ.head e) = subst P (sym e) all.0
every_mem P all (Memᴰ.tail m) = every_mem P all.1 m

pub every_self : (ps : List Page) → Every (λ p. Memᴰ p ps) ps
every_self [] = tt
every_self (p ∷ ps) = (Memᴰ.head refl, every_map (λ q. Memᴰ q ps) (λ q. Memᴰ q (p ∷ ps)) ps (λ q m. Memᴰ.tail m) (every_self ps))

-- ---- a page put into its place

data Inserted (p : Page) : List Page → List Page → Type 0 where
  last : Inserted p [] (p ∷ [])
  here : {q : Page} {qs : List Page} → page_number p.entry ≤ page_number q.entry → Inserted p (q ∷ qs) (p ∷ q ∷ qs)
  later : {q : Page} {qs rs : List Page} → page_number q.entry < page_number p.entry → Inserted p qs rs → Inserted p (q ∷ qs) (q ∷ rs)

inserted : (p : Page) (ps : List Page) → Inserted p ps (insert p ps)
unfolding insert
inserted p [] = last
inserted p (q ∷ qs) = by (leb (page_number p.entry) (page_number q.entry)) refl (inserted p qs)
  where
    by : (t : Bool) → leb (page_number p.entry) (page_number q.entry) ≡ t → Inserted p qs (insert p qs) → Inserted p (q ∷ qs) (cond t (p ∷ q ∷ qs) (q ∷ insert p qs))
    by true e i = here (leb-true (page_number p.entry) (page_number q.entry) e)
    by false e i = later (leb-false (page_number p.entry) (page_number q.entry) e) i

-- what a list holds, a list that holds its tail's pages holds behind the same first page
still_there : {q r : Page} {qs rs : List Page} → (Memᴰ r qs → Memᴰ r rs) → Memᴰ r (q ∷ qs) → Memᴰ r (q ∷ rs)
still_there keep (Memᴰ.head e) = Memᴰ.head e
still_there keep (Memᴰ.tail m) = Memᴰ.tail (keep m)

-- the entry has another page
abbrev Other : ℕ → ℕ → Type 0
Other entry n = page_number entry ≡ page_number n → ⊥

-- of two pages with different addresses, the one that is not above is below
below_other : (a b : ℕ) → Other a b → page_number a ≤ page_number b → page_number a < page_number b
below_other a b other low = omega arith

module _ (p : Page) where
  every_inserted : (P : Page → Type 0) {qs rs : List Page} → Inserted p qs rs → P p → Every P qs → Every P rs
  every_inserted P last h all = (h, all)
  every_inserted P (here low) h all = (h, all)
  every_inserted P (later high i) h all = (all.0, every_inserted P i h all.1)

  new_inserted : {qs rs : List Page} → Inserted p qs rs → Memᴰ p rs
  new_inserted last = Memᴰ.head refl
  new_inserted (here low) = Memᴰ.head refl
  new_inserted (later high i) = Memᴰ.tail (new_inserted i)

  old_inserted : {qs rs : List Page} → Inserted p qs rs → (r : Page) → Memᴰ r qs → Memᴰ r rs
  old_inserted last r m = Memᴰ.tail m
  old_inserted (here low) r m = Memᴰ.tail m
  old_inserted (later high i) r m = still_there (λ k. old_inserted i r k) m

  length_inserted : {qs rs : List Page} → Inserted p qs rs → length rs ≡ suc (length qs)
  length_inserted last = refl
  length_inserted (here low) = refl
  length_inserted (later high i) = ap suc (length_inserted i)

  -- no page of the list has its address
  ascending_inserted : {qs rs : List Page} → Inserted p qs rs → (least : ℕ) → least ≤ page_number p.entry → Every (λ q. Other p.entry q.entry) qs
      → Ascending least qs → Ascending least rs
  unfolding Ascending
  ascending_inserted last least low apart up = (low, up)
  ascending_inserted (here {q} near) least low apart up = (low, (below_other p.entry q.entry apart.0 near, up.1))
  ascending_inserted (later high i) least low apart up = (up.0, ascending_inserted i _ high apart.1 up.1)

-- ---- all pages put into their places

pub every_ascended : (P : Page → Type 0) (ps : List Page) → Every P ps → Every P (ascended ps)
unfolding ascended
every_ascended P [] all = tt
every_ascended P (p ∷ ps) all = every_inserted p P (inserted p (ascended ps)) all.0 (every_ascended P ps all.1)

pub mem_ascended : (r : Page) (ps : List Page) → Memᴰ r ps → Memᴰ r (ascended ps)
unfolding ascended
mem_ascended r [] m = m
mem_ascended r (p ∷ ps) m = by (Memᴰ.cases_cons m) (mem_ascended r ps)
  where
    by : (r ≡ p) ⊎ Memᴰ r ps → (Memᴰ r ps → Memᴰ r (ascended ps)) → Memᴰ r (insert p (ascended ps))
    by (inl e) old = Memᴰ.cast e (new_inserted p (inserted p (ascended ps)))
    by (inr n) old = old_inserted p (inserted p (ascended ps)) r (old n)

pub length_ascended : (ps : List Page) → length (ascended ps) ≡ length ps
unfolding ascended
length_ascended [] = refl
length_ascended (p ∷ ps) = length_inserted p (inserted p (ascended ps)) ∙ ap suc (length_ascended ps)

-- ---- what all entries have, by the pages and by the entries' places

every_at : (P : ℕ → Type 0) (ps : List Page) → ((i : ℕ) → i < length (entries_of ps) → P (get_or (entries_of ps) i 0)) → Every (λ p. P p.entry) ps
unfolding entries_of
every_at P [] each = tt
every_at P (p ∷ ps) each = (each 0 (omega arith), every_at P ps (λ i h. each (suc i) (omega arith)))

at_every : (P : ℕ → Type 0) (ps : List Page) → Every (λ p. P p.entry) ps → (i : ℕ) → i < length (entries_of ps) → P (get_or (entries_of ps) i 0)
unfolding entries_of
at_every P [] all i h = absurd (omega arith)
at_every P (p ∷ ps) all zero h = all.0
at_every P (p ∷ ps) all (suc i) h = at_every P ps all.1 i (omega arith)

pub any_every : (test : ℕ → Bool) (ps : List Page) → list_any test (entries_of ps) ≡ false → Every (λ p. test p.entry ≡ false) ps
any_every test ps e = every_at (λ n. test n ≡ false) ps (none_passes test (entries_of ps) e)

pub every_any : (test : ℕ → Bool) (ps : List Page) → Every (λ p. test p.entry ≡ false) ps → list_any test (entries_of ps) ≡ false
every_any test ps all = each_fails test (entries_of ps) (at_every (λ n. test n ≡ false) ps all)

apart_ascending : (ps : List Page) → Apart (entries_of ps) → Ascending 0 (ascended ps)
unfolding ascended entries_of Ascending page_number
apart_ascending [] apart = tt
apart_ascending (p ∷ ps) apart =
    ascending_inserted p (inserted p (ascended ps)) 0 (omega arith)
    (every_ascended (λ q. Other p.entry q.entry) ps
    (every_at (Other p.entry) ps (λ j h e. let same : 0 ≡ suc j = apart 0 (suc j) (omega arith) (omega arith) e in omega arith)))
    (apart_ascending ps (λ i j h k e. let same : suc i ≡ suc j = apart (suc i) (suc j) (omega arith) (omega arith) e in omega arith))

pub ascended_ascending : (ps : List Page) → repeated (entries_of ps) ≡ false → Ascending 0 (ascended ps)
ascended_ascending ps once = apart_ascending ps (once_apart (entries_of ps) once)

-- ---- what an ascending list has

pub ascending_every : (P : Page → Type 0) (least : ℕ) (ps : List Page) → ((p : Page) → least ≤ page_number p.entry → P p) → Ascending least ps → Every P ps
unfolding Ascending
ascending_every P least [] each up = tt
ascending_every P least (p ∷ ps) each up =
    let low = up.0 in
    (each p low, ascending_every P (suc (page_number p.entry)) ps (λ q high. each q (omega arith)) up.1)

ascending_above : (p : Page) (ps : List Page) → Ascending (suc (page_number p.entry)) ps → (j : ℕ) → j < length (entries_of ps)
    → page_number p.entry < page_number (get_or (entries_of ps) j 0)
ascending_above p ps up = at_every (λ n. page_number p.entry < page_number n) ps (ascending_every (λ q. page_number p.entry < page_number q.entry) (suc (page_number p.entry)) ps (λ q high. high) up)

ascending_places : (least : ℕ) (ps : List Page) → Ascending least ps → Apart (entries_of ps)
unfolding Ascending entries_of page_number
ascending_places least [] up i j h k e = absurd (omega arith)
ascending_places least (p ∷ ps) up zero zero h k e = refl
ascending_places least (p ∷ ps) up zero (suc j) h k e = let above = ascending_above p ps up.1 j (omega arith) in absurd (omega arith)
ascending_places least (p ∷ ps) up (suc i) zero h k e = let above = ascending_above p ps up.1 i (omega arith) in absurd (omega arith)
ascending_places least (p ∷ ps) up (suc i) (suc j) h k e = ap suc (ascending_places (suc (page_number p.entry)) ps up.1 i j (omega arith) (omega arith) e)

pub ascending_apart : (least : ℕ) (ps : List Page) → Ascending least ps → repeated (entries_of ps) ≡ false
ascending_apart least ps up = apart_once (entries_of ps) (ascending_places least ps up)

-- a list that is in order stays as it is
pub ascending_same : (least : ℕ) (ps : List Page) → Ascending least ps → ascended ps ≡ ps
unfolding Ascending ascended insert
ascending_same least [] up = refl
ascending_same least (p ∷ []) up = refl
ascending_same least (p ∷ q ∷ ps) up =
    let low : page_number p.entry < page_number q.entry = up.1.0 in
    ap (insert p) (ascending_same (suc (page_number p.entry)) (q ∷ ps) up.1) ∙ rw (le-leb (page_number p.entry) (page_number q.entry) (omega arith))
