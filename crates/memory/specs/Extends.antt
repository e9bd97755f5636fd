-- Two memories side by side (docs/RULES.md, "Two runs side by side"). Assumes nothing.
use Rattle.std.specs.Prelude.{ℕ, ◌*◌, ◌<◌, ◌≡◌, Bool, true, false, Option, Some, None, List, length, get_or, take, drop, eqb}
use Rattle.std.specs.List.{list_any}
use Rattle.pages.specs.Pages.{Lookup, page_bytes, page_of, on_page}
use Rattle.pages.specs.declared.pages.Spot.{Spot}

-- what an address holds: nothing, or a byte on a page of a kind
pub data Cell : Type 0 where
  absent : Cell
  present : ℕ → ℕ → Cell

abbrev pub cell_in : List ℕ → Option Spot → Cell
cell_in bytes None = absent
cell_in bytes (Some s) = present s.kind (get_or bytes s.place 0)

abbrev pub cell : Lookup → List ℕ → ℕ → Cell
cell look bytes address = cell_in bytes (look address)

-- an address leads to a listed page, and to one of a kind
abbrev pub is_listed : Option Spot → Bool
is_listed None = false
is_listed (Some s) = true

abbrev pub is_kind : ℕ → Option Spot → Bool
is_kind kind None = false
is_kind kind (Some s) = eqb s.kind kind

-- The second memory extends the first. Old bytes (the papers' term: those on pages of the first) are alike in both, and so are
-- their kinds; every other address of the second, on an added page or on none, still holds what was lent there, `lent₂`.
pub record Extends (look₁ : Lookup) (bytes₁ : List ℕ) (look₂ : Lookup) (bytes₂ lent₂ : List ℕ) : Type 0 where
  pub old : (address kind byte : ℕ) → cell look₁ bytes₁ address ≡ present kind byte → cell look₂ bytes₂ address ≡ present kind byte
  pub added : (address : ℕ) → look₁ address ≡ None → cell look₂ bytes₂ address ≡ cell look₂ lent₂ address

-- every place is among the lent bytes, and no two addresses lead to one place
pub record Places (look : Lookup) (lent : ℕ) : Type 0 where
  pub inside : (address : ℕ) (s : Spot) → look address ≡ Some s → s.place < lent
  pub apart : (a b : ℕ) (s t : Spot) → look a ≡ Some s → look b ≡ Some t → s.place ≡ t.place → a ≡ b

-- the bytes of the i-th page
abbrev pub page_at : List ℕ → ℕ → List ℕ
page_at bytes i = take page_bytes (drop (page_bytes * i) bytes)

-- each page of the first list stands somewhere in the second, alike in address, kind and bytes
pub record HoldsPages (pages₁ bytes₁ pages₂ bytes₂ : List ℕ) : Type 0 where
  pub each : (i : ℕ) → i < length pages₁ → (j : ℕ) × (j < length pages₂) × (get_or pages₂ j 0 ≡ get_or pages₁ i 0) × (page_at bytes₂ j ≡ page_at bytes₁ i)

-- the added pages, which the first list has not, are untouched (the papers' terms): they hold what was lent
pub record Untouched (pages₁ pages₂ bytes₂ lent₂ : List ℕ) : Type 0 where
  pub each : (j : ℕ) → j < length pages₂ → list_any (on_page (page_of (get_or pages₂ j 0))) pages₁ ≡ false → page_at bytes₂ j ≡ page_at lent₂ j
