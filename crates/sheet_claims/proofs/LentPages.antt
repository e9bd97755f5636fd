-- The pages of the lent buffers, by their places in the list. Assumes nothing.
use Rattle.std.proofs.Common.{◌≡◌, ℕ, zero, suc, ◌+◌, ◌*◌, ◌<◌, List, [], ◌∷◌, length, get_or, take, drop, Ok, sym, refl, ap, ◌∙◌, subst, ap₂, arith, drop-drop}
use mathlib.Core.List.Memᴰ
use mathlib.Core.List.{Memᴰ}
use Rattle.pages.specs.Pages.{page_bytes, listing}
use Rattle.memory.specs.Extends.{page_at, HoldsPages}
use Rattle.pages.proofs.Laws.{valid_list}
use Rattle.sheet.specs.Sheets.{Page, Ascending, pages_of, ascended, entries_of}
use Rattle.sheet_claims.proofs.Ordered.{Every, every_mem, ascended_ascending}

-- the i-th page
abbrev pub lent_page : List ℕ → List ℕ → ℕ → Page
lent_page entries bytes i = record { entry = get_or entries i 0; bytes = page_at bytes i }

-- behind the first page, the i-th is the next one's
next_page_lem : (entry : ℕ) (entries bytes : List ℕ) (i : ℕ) → lent_page entries (drop page_bytes bytes) i ≡ lent_page (entry ∷ entries) bytes (suc i)
next_page_lem entry entries bytes i =
    let place : page_bytes + page_bytes * i ≡ page_bytes * suc i = omega arith in
    ap (λ (rest : List ℕ). record { entry = get_or entries i 0; bytes = take page_bytes rest }) (drop-drop (page_bytes * i) page_bytes bytes ∙ ap (λ (n : ℕ). drop n bytes) place)

pub lent_entries : (entries bytes : List ℕ) → entries_of (pages_of entries bytes) ≡ entries
unfolding entries_of pages_of
lent_entries [] bytes = refl
lent_entries (entry ∷ entries) bytes = rw (lent_entries entries (drop page_bytes bytes))

pub lent_every : (P : Page → Type 0) (entries bytes : List ℕ) → ((i : ℕ) → i < length entries → P (lent_page entries bytes i)) → Every P (pages_of entries bytes)
unfolding pages_of
lent_every P [] bytes each = tt
lent_every P (entry ∷ entries) bytes each = (each 0 (omega arith), lent_every P entries (drop page_bytes bytes) (λ i h. subst P (sym (next_page_lem entry entries bytes i)) (each (suc i) (omega arith))))

lent_mem : (entries bytes : List ℕ) (i : ℕ) → i < length entries → Memᴰ (lent_page entries bytes i) (pages_of entries bytes)
unfolding pages_of
lent_mem [] bytes i h = absurd (omega arith)
lent_mem (entry ∷ entries) bytes zero h = Memᴰ.head refl
lent_mem (entry ∷ entries) bytes (suc i) h = Memᴰ.tail (Memᴰ.cast (sym (next_page_lem entry entries bytes i)) (lent_mem entries (drop page_bytes bytes) i (omega arith)))

-- each page of the first list is one of the second's
pub lent_held : (pages₁ bytes₁ pages₂ bytes₂ : List ℕ) → HoldsPages pages₁ bytes₁ pages₂ bytes₂ → Every (λ p. Memᴰ p (pages_of pages₂ bytes₂)) (pages_of pages₁ bytes₁)
lent_held pages₁ bytes₁ pages₂ bytes₂ holds =
    lent_every (λ p. Memᴰ p (pages_of pages₂ bytes₂)) pages₁ bytes₁
    (λ i h.
    let there = holds.each i h in
    Memᴰ.cast (ap₂ (λ (e : ℕ) (b : List ℕ). record { entry = e; bytes = b }) (sym there.2) (sym there.3)) (lent_mem pages₂ bytes₂ there.0 there.1))

-- ---- and back

every_lent : (P : Page → Type 0) (entries bytes : List ℕ) → Every P (pages_of entries bytes) → (i : ℕ) → i < length entries → P (lent_page entries bytes i)
every_lent P entries bytes all i h = every_mem P all (lent_mem entries bytes i h)

-- a page of a list has a place there
mem_lent : (p : Page) (entries bytes : List ℕ) → Memᴰ p (pages_of entries bytes) → (i : ℕ) × (i < length entries) × (lent_page entries bytes i ≡ p)
unfolding pages_of
mem_lent p [] bytes m = absurd (Memᴰ.not-nil m)
mem_lent p (entry ∷ entries) bytes (Memᴰ.head e) = (0, omega arith, sym e)
mem_lent p (entry ∷ entries) bytes (Memᴰ.tail m) =
    let there = mem_lent p entries (drop page_bytes bytes) m in
    (suc there.0, let h = there.1 in omega arith, sym (next_page_lem entry entries bytes there.0) ∙ there.2)

pub held_lent : (pages₁ bytes₁ pages₂ bytes₂ : List ℕ) → Every (λ p. Memᴰ p (pages_of pages₂ bytes₂)) (pages_of pages₁ bytes₁) → HoldsPages pages₁ bytes₁ pages₂ bytes₂
held_lent pages₁ bytes₁ pages₂ bytes₂ all = record {
  each = λ i h.
      let there = mem_lent (lent_page pages₁ bytes₁ i) pages₂ bytes₂ (every_lent (λ p. Memᴰ p (pages_of pages₂ bytes₂)) pages₁ bytes₁ all i h) in
      (there.0, there.1, ap (λ (p : Page). p.entry) there.2, ap (λ (p : Page). p.bytes) there.2);
}

-- ---- a valid list, in ascending order

pub lent_ascending : (entries bytes : List ℕ) → listing entries (length bytes) ≡ Ok tt → Ascending 0 (ascended (pages_of entries bytes))
lent_ascending entries bytes valid = ascended_ascending (pages_of entries bytes) (rw (lent_entries entries bytes) (valid_list entries (length bytes) valid).apart)
