-- Two inputs of equal meaning have one text. Assumes nothing.
use Rattle.std.proofs.Common.{◌≡◌, ℕ, suc, ◌<◌, ◌≤◌, ◌⊎◌, List, [], ◌∷◌, sym, refl, ap, ap₂, inl, inr, arith}
use mathlib.Core.List.Memᴰ
use mathlib.Core.List.{Memᴰ}
use Rattle.memory.specs.Extends.{HoldsPages}
use Rattle.sheet.specs.Sheets.{Page, Ascending, pages_of, ascended, saved_of}
use Rattle.order.specs.Order.{page_number}
use Rattle.sheet_claims.specs.EqualMeaning.{EqualText, EqualWrites}
use Rattle.replay.specs.Run.{check_by}
use Rattle.sheet_write.specs.Writes.{writes}
use Rattle.sheet_claims.proofs.LentPages.{lent_held, lent_ascending}
use Rattle.sheet_claims.proofs.Ordered.{Every, every_map, every_mem, every_ascended, mem_ascended, ascending_every}

-- ---- two strictly ascending lists of the same pages are one list

not_below : (least : ℕ) (ps : List Page) → Ascending least ps → (p : Page) → Memᴰ p ps → least ≤ page_number p.entry
not_below least ps up p m = every_mem (λ q. least ≤ page_number q.entry) (ascending_every (λ q. least ≤ page_number q.entry) least ps (λ q h. h) up) m

-- pages above one that are among it and others are among the others
among_others : (q : Page) (least : ℕ) (ps qs : List Page) → page_number q.entry < least → Ascending least ps → Every (λ r. Memᴰ r (q ∷ qs)) ps → Every (λ r. Memᴰ r qs) ps
unfolding Ascending
among_others q least [] qs high up all = tt
among_others q least (p ∷ ps) qs high up all = (by (Memᴰ.cases_cons all.0), among_others q (suc (page_number p.entry)) ps qs (let low = up.0 in omega arith) up.1 all.1)
  where
    by : (p ≡ q) ⊎ Memᴰ p qs → Memᴰ p qs
    by (inl e) = let low : least ≤ page_number q.entry = rw e at up.0 in absurd (omega arith)
    by (inr m) = m

first_same : (p q : Page) (ps qs : List Page) → Ascending (suc (page_number p.entry)) ps → Ascending (suc (page_number q.entry)) qs → Memᴰ p (q ∷ qs) → Memᴰ q (p ∷ ps) → p ≡ q
first_same p q ps qs up-p up-q m n = by (Memᴰ.cases_cons m) (Memᴰ.cases_cons n)
  where
    by : (p ≡ q) ⊎ Memᴰ p qs → (q ≡ p) ⊎ Memᴰ q ps → p ≡ q
    by (inl e) there = e
    by (inr k) (inl e) = sym e
    by (inr k) (inr j) =
        let above = not_below (suc (page_number q.entry)) qs up-q p k in
        let below = not_below (suc (page_number p.entry)) ps up-p q j in
        absurd (omega arith)

same_pages : (least : ℕ) (ps qs : List Page) → Ascending least ps → Ascending least qs → Every (λ r. Memᴰ r qs) ps → Every (λ r. Memᴰ r ps) qs → ps ≡ qs
unfolding Ascending
same_pages least [] [] up-p up-q there back = refl
same_pages least [] (q ∷ qs) up-p up-q there back = absurd (Memᴰ.not-nil back.0)
same_pages least (p ∷ ps) [] up-p up-q there back = absurd (Memᴰ.not-nil there.0)
same_pages least (p ∷ ps) (q ∷ qs) up-p up-q there back =
    let same = first_same p q ps qs up-p.1 up-q.1 there.0 back.0 in
    let page_number_lem : page_number p.entry ≡ page_number q.entry = ap (λ (r : Page). page_number r.entry) same in
    ap₂ (λ (r : Page) (rs : List Page). r ∷ rs) same
    (same_pages (suc (page_number p.entry)) ps qs up-p.1 (rw page_number_lem up-q.1) (among_others q (suc (page_number p.entry)) ps qs (omega arith) up-p.1 there.1)
    (among_others p (suc (page_number q.entry)) qs ps (omega arith) up-q.1 back.1))

-- ---- the lent pages

held_ascended : (pages₁ bytes₁ pages₂ bytes₂ : List ℕ) → HoldsPages pages₁ bytes₁ pages₂ bytes₂
    → Every (λ r. Memᴰ r (ascended (pages_of pages₂ bytes₂))) (ascended (pages_of pages₁ bytes₁))
held_ascended pages₁ bytes₁ pages₂ bytes₂ holds =
    let ps₁ : List Page = pages_of pages₁ bytes₁ in
    let ps₂ : List Page = pages_of pages₂ bytes₂ in
    every_ascended (λ r. Memᴰ r (ascended ps₂)) ps₁
    (every_map (λ r. Memᴰ r ps₂) (λ r. Memᴰ r (ascended ps₂)) ps₁ (λ r. mem_ascended r ps₂) (lent_held pages₁ bytes₁ pages₂ bytes₂ holds))

pub equal_text : EqualText
unfolding saved_of
equal_text a b same =
    let pages : ascended (pages_of a.pages a.bytes) ≡ ascended (pages_of b.pages b.bytes)
    = same_pages 0 _ _ (lent_ascending a.pages a.bytes same.valid_a) (lent_ascending b.pages b.bytes same.valid_b)
    (held_ascended a.pages a.bytes b.pages b.bytes same.there) (held_ascended b.pages b.bytes a.pages a.bytes same.back)
    in
    rw (same.state, same.words, pages)

pub equal_writes : EqualWrites
unfolding writes check_by
equal_writes a b out same = rw (equal_text a b same, same.valid_a, same.valid_b, same.state, same.words)
