-- From two page lists to two memories side by side, and back. Assumes nothing.
use Rattle.std.proofs.Common.{ℕ, ◌+◌, ◌*◌, ◌%◌, ◌<◌, ◌≡◌, refl, sym, ◌∙◌, ap, ap₂, false, List, length, get_or, drop, Ok, length-take, length-drop, get_or-take, get_or-drop, ext_get_or, arith}
use Rattle.std.specs.List.{list_any}
use Rattle.pages.specs.Pages.{page_bytes, page_of, kind_of, on_page, listing, spot}
use Rattle.accesses.specs.Access.{lookup_of}
use Rattle.memory.specs.Extends.{Cell, absent, present, cell, Extends, page_at, HoldsPages, Untouched}
use Rattle.memory.proofs.Cells.{held, cell_at}
use Rattle.accesses.proofs.Laws.{behind}
use Rattle.memory.proofs.Valid.{Good, valid, listed, unlisted}

-- a byte of a page, among the lent bytes
page_byte : (bytes : List ℕ) (i offset : ℕ) → offset < page_bytes → get_or (page_at bytes i) offset 0 ≡ get_or bytes (page_bytes * i + offset) 0
page_byte bytes i offset h = get_or-take page_bytes (drop (page_bytes * i) bytes) offset 0 h ∙ get_or-drop (page_bytes * i) bytes offset 0

same_page : (bytes₁ bytes₂ : List ℕ) (i j offset : ℕ) → offset < page_bytes → page_at bytes₂ j ≡ page_at bytes₁ i → get_or bytes₂ (page_bytes * j + offset) 0 ≡ get_or bytes₁ (page_bytes * i + offset) 0
same_page bytes₁ bytes₂ i j offset h e = sym (page_byte bytes₂ j offset h) ∙ ap (λ (page : List ℕ). get_or page offset 0) e ∙ page_byte bytes₁ i offset h

module _ (pages₁ bytes₁ pages₂ bytes₂ : List ℕ) (good₂ : Good pages₂ (length bytes₂)) (holds : HoldsPages pages₁ bytes₁ pages₂ bytes₂) where
  -- what an address holds on the i-th page of the first list, the second list holds
  held_in_second : (address kind byte : ℕ) → cell (spot pages₁ (length bytes₁)) bytes₁ address ≡ present kind byte → cell (spot pages₂ (length bytes₂)) bytes₂ address ≡ present kind byte
  held_in_second address kind byte e =
      let h = held bytes₁ (spot pages₁ (length bytes₁) address) kind byte e in
      let f = behind pages₁ (length bytes₁) address h.found h.spot_is in
      let g = holds.each f.j f.listed in
      let place_is : h.found.place ≡ page_bytes * f.j + address % page_bytes = f.place_is ∙ ap (λ (n : ℕ). page_bytes * n + address % page_bytes) (from_zero f.j) in
      cell_at bytes₂ (spot pages₂ (length bytes₂) address) (record { kind = kind_of (get_or pages₂ g.0 0); place = page_bytes * g.0 + address % page_bytes })
      (listed pages₂ (length bytes₂) address g.0 good₂ g.1 (ap page_of g.2 ∙ f.on))
      ∙ ap₂ present (ap kind_of g.2 ∙ f.kind_is ∙ h.kind_is)
      (same_page bytes₁ bytes₂ f.j g.0 (address % page_bytes) (omega arith) g.3 ∙ ap (λ (p : ℕ). get_or bytes₁ p 0) (sym place_is) ∙ h.byte_is)
    where
      from_zero : (n : ℕ) → 0 + n ≡ n
      from_zero n = omega arith

-- The second list, valid, holds every page of the first: its memory extends the first's.
pub pages_extend : (pages₁ bytes₁ pages₂ bytes₂ : List ℕ) → listing pages₂ (length bytes₂) ≡ Ok tt → HoldsPages pages₁ bytes₁ pages₂ bytes₂
    → Extends (lookup_of pages₁ bytes₁) bytes₁ (lookup_of pages₂ bytes₂) bytes₂ bytes₂
unfolding lookup_of
pages_extend pages₁ bytes₁ pages₂ bytes₂ valid₂ holds = record {
  old = held_in_second pages₁ bytes₁ pages₂ bytes₂ (valid pages₂ (length bytes₂) valid₂) holds;
  added = λ address none. refl;
}

-- The order of a list has no meaning: two valid lists of the same pages hold the same at every address.
pub order_free : (pages₁ bytes₁ pages₂ bytes₂ : List ℕ) → listing pages₁ (length bytes₁) ≡ Ok tt → listing pages₂ (length bytes₂) ≡ Ok tt
    → HoldsPages pages₁ bytes₁ pages₂ bytes₂ → HoldsPages pages₂ bytes₂ pages₁ bytes₁
    → (address : ℕ) → cell (lookup_of pages₁ bytes₁) bytes₁ address ≡ cell (lookup_of pages₂ bytes₂) bytes₂ address
unfolding lookup_of
order_free pages₁ bytes₁ pages₂ bytes₂ valid₁ valid₂ there back address =
    either
    (cell (spot pages₁ (length bytes₁)) bytes₁ address)
    (cell (spot pages₂ (length bytes₂)) bytes₂ address)
    ((pages_extend pages₁ bytes₁ pages₂ bytes₂ valid₂ there).old address)
    ((pages_extend pages₂ bytes₂ pages₁ bytes₁ valid₁ back).old address)
  where
    either : (one two : Cell) → ((k b : ℕ) → one ≡ present k b → two ≡ present k b) → ((k b : ℕ) → two ≡ present k b → one ≡ present k b) → one ≡ two
    either absent absent f g = refl
    either absent (present k b) f g = g k b refl
    either (present k b) absent f g = sym (f k b refl)
    either (present k b) (present l d) f g = sym (f k b refl)

-- ---- back to the lists

-- the address of a byte of an entry's page
on_own_page : (entry offset : ℕ) → offset < page_bytes → page_of entry ≡ page_of (page_of entry + offset)
unfolding page_of
on_own_page entry offset h = omega arith

own_offset : (entry offset : ℕ) → offset < page_bytes → (page_of entry + offset) % page_bytes ≡ offset
unfolding page_of
own_offset entry offset h = omega arith

page_length_lem : (pages bytes : List ℕ) (i : ℕ) → Good pages (length bytes) → i < length pages → length (page_at bytes i) ≡ page_bytes
page_length_lem pages bytes i good h = let lent_is = good.lent_is in simp (length-take, length-drop) (omega arith)

-- what the address of a byte of a listed page holds
own_cell : (pages bytes : List ℕ) (i offset : ℕ) → Good pages (length bytes) → i < length pages → offset < page_bytes
    → cell (spot pages (length bytes)) bytes (page_of (get_or pages i 0) + offset) ≡ present (kind_of (get_or pages i 0)) (get_or (page_at bytes i) offset 0)
own_cell pages bytes i offset good h o =
    let entry : ℕ = get_or pages i 0 in
    cell_at bytes _ (record { kind = kind_of entry; place = page_bytes * i + (page_of entry + offset) % page_bytes }) (listed pages (length bytes) (page_of entry + offset) i good h (on_own_page entry offset o))
    ∙ ap (λ (n : ℕ). present (kind_of entry) (get_or bytes (page_bytes * i + n) 0)) (own_offset entry offset o)
    ∙ ap (present (kind_of entry)) (sym (page_byte bytes i offset o))

-- the bytes of two cells that are equal
same_present : (k l b d : ℕ) → present k b ≡ present l d → b ≡ d
same_present k l b d e = cc

module _ (pages₁ bytes₁ pages₂ bytes₂ lent₂ : List ℕ) (good₁ : Good pages₁ (length bytes₁)) (good₂ : Good pages₂ (length bytes₂)) (kept : length bytes₂ ≡ length lent₂)
    (extends : Extends (spot pages₁ (length bytes₁)) bytes₁ (spot pages₂ (length bytes₂)) bytes₂ lent₂) where
  old_page : (i j : ℕ) → i < length pages₁ → j < length pages₂ → get_or pages₂ j 0 ≡ get_or pages₁ i 0 → page_at bytes₂ j ≡ page_at bytes₁ i
  old_page i j h k same =
      ext_get_or 0 (page_at bytes₂ j) (page_at bytes₁ i) (page_length_lem pages₂ bytes₂ j good₂ k ∙ sym (page_length_lem pages₁ bytes₁ i good₁ h))
      (λ offset below. byte offset (rw (← page_length_lem pages₂ bytes₂ j good₂ k) below))
    where
      byte : (offset : ℕ) → offset < page_bytes → get_or (page_at bytes₂ j) offset 0 ≡ get_or (page_at bytes₁ i) offset 0
      byte offset o =
          same_present _ _ _ _
          (sym (own_cell pages₂ bytes₂ j offset good₂ k o)
          ∙ ap (λ (entry : ℕ). cell (spot pages₂ (length bytes₂)) bytes₂ (page_of entry + offset)) same
          ∙ extends.old (page_of (get_or pages₁ i 0) + offset) _ _ (own_cell pages₁ bytes₁ i offset good₁ h o))

  added_page : (j : ℕ) → j < length pages₂ → list_any (on_page (page_of (get_or pages₂ j 0))) pages₁ ≡ false → page_at bytes₂ j ≡ page_at lent₂ j
  added_page j k none =
      ext_get_or 0 (page_at bytes₂ j) (page_at lent₂ j) (page_length_lem pages₂ bytes₂ j good₂ k ∙ sym (page_length_lem pages₂ lent₂ j good_lent k))
      (λ offset below. byte offset (rw (← page_length_lem pages₂ bytes₂ j good₂ k) below))
    where
      good_lent : Good pages₂ (length lent₂)
      good_lent = rw (← kept) good₂

      byte : (offset : ℕ) → offset < page_bytes → get_or (page_at bytes₂ j) offset 0 ≡ get_or (page_at lent₂ j) offset 0
      byte offset o =
          same_present _ _ _ _
          (sym (own_cell pages₂ bytes₂ j offset good₂ k o)
          ∙ extends.added (page_of (get_or pages₂ j 0) + offset) (unlisted pages₁ (length bytes₁) (page_of (get_or pages₂ j 0) + offset) (rw (← on_own_page (get_or pages₂ j 0) offset o) none))
          ∙ ap (λ (n : ℕ). cell (spot pages₂ n) lent₂ (page_of (get_or pages₂ j 0) + offset)) kept
          ∙ own_cell pages₂ lent₂ j offset good_lent k o)

-- Whatever was stored since: while the second memory extends the first, it holds the first's pages as they are now, and the added
-- pages as they were lent.
pub extends_pages : (pages₁ lent₁ bytes₁ pages₂ lent₂ bytes₂ : List ℕ) → listing pages₁ (length bytes₁) ≡ Ok tt → listing pages₂ (length bytes₂) ≡ Ok tt → length bytes₂ ≡ length lent₂
    → HoldsPages pages₁ lent₁ pages₂ lent₂ → Extends (lookup_of pages₁ bytes₁) bytes₁ (lookup_of pages₂ bytes₂) bytes₂ lent₂
    → HoldsPages pages₁ bytes₁ pages₂ bytes₂ × Untouched pages₁ pages₂ bytes₂ lent₂
unfolding lookup_of
extends_pages pages₁ lent₁ bytes₁ pages₂ lent₂ bytes₂ valid₁ valid₂ kept holds extends =
    let good₁ = valid pages₁ (length bytes₁) valid₁ in
    let good₂ = valid pages₂ (length bytes₂) valid₂ in (
      record { each = λ i h. let g = holds.each i h in (g.0, g.1, g.2, old_page pages₁ bytes₁ pages₂ bytes₂ lent₂ good₁ good₂ kept extends i g.0 h g.1 g.2) },
      record { each = added_page pages₁ bytes₁ pages₂ bytes₂ lent₂ good₁ good₂ kept extends },
    )
