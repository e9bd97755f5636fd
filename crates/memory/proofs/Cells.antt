-- A byte of memory by its address, before and after a store, and over two memories. Assumes nothing.
use Rattle.std.proofs.Common.{ℕ, ◌≡◌, refl, sym, ap, subst, Bool, true, false, cond, List, length, get_or, set, eqb, Option, Some, None, Result, Ok, Err, arith}
use lib.Seq.{get_or-set_same, get_or-set_other}
use Rattle.pages.specs.Pages.{Lookup}
use Rattle.accesses.specs.Access.{on_kind, byte_in, put_byte}
use Rattle.memory.specs.Extends.{Cell, absent, present, cell_in, cell, Places}
use Rattle.pages.specs.declared.pages.Spot.{Spot}
use Rattle.accesses.specs.declared.reach.Failure.{Failure}
use Rattle.accesses.specs.declared.reach.Failure.TheVariants.{WrongKind}
use Rattle.accesses.proofs.Laws.{length_put}

-- ---- where a byte that an access reaches leads

-- a place on a page of the kind
pub record Reached (kind : ℕ) (spot : Option Spot) : Type 0 where
  pub found : Spot
  pub spot_is : spot ≡ Some found
  pub kind_is : eqb found.kind kind ≡ true

pub reached : (kind address : ℕ) (spot : Option Spot) → on_kind kind address spot ≡ Ok tt → Reached kind spot
reached kind address None e = let z : ◌≡◌ {A = ℕ} 0 1 = cc in absurd (omega arith)
reached kind address (Some s) e = go (eqb s.kind kind) refl e
  where
    go : (t : Bool) → eqb s.kind kind ≡ t → cond {A = Result (Unit {0}) Failure} t (Ok tt) (Err (WrongKind address)) ≡ Ok tt → Reached kind (Some s)
    go true t q = record { found = s; spot_is = refl; kind_is = t }
    go false t q = let z : ◌≡◌ {A = ℕ} 0 1 = cc in absurd (omega arith)

-- ---- cells and places

pub cell_at : (bytes : List ℕ) (spot : Option Spot) (s : Spot) → spot ≡ Some s → cell_in bytes spot ≡ present s.kind (get_or bytes s.place 0)
cell_at bytes spot s e = rw e

-- the byte of a cell
abbrev pub cell_byte : Cell → ℕ
cell_byte absent = 0
cell_byte (present kind byte) = byte

pub cell_byte_lem : (bytes : List ℕ) (spot : Option Spot) → byte_in bytes spot ≡ cell_byte (cell_in bytes spot)
cell_byte_lem bytes None = refl
cell_byte_lem bytes (Some s) = refl

-- a cell that holds something lies at a place
pub record Held (bytes : List ℕ) (spot : Option Spot) (kind byte : ℕ) : Type 0 where
  pub found : Spot
  pub spot_is : spot ≡ Some found
  pub kind_is : found.kind ≡ kind
  pub byte_is : get_or bytes found.place 0 ≡ byte

pub held : (bytes : List ℕ) (spot : Option Spot) (kind byte : ℕ) → cell_in bytes spot ≡ present kind byte → Held bytes spot kind byte
held bytes None kind byte e = let z : ◌≡◌ {A = ℕ} 0 1 = cc in absurd (omega arith)
held bytes (Some s) kind byte e = record { found = s; spot_is = refl; kind_is = cc; byte_is = cc }

-- ---- after one byte was set

module _ (look : Lookup) (bytes : List ℕ) (places : Places look (length bytes)) (address : ℕ) (s : Spot) (led : look address ≡ Some s) (byte : ℕ) where
  pub put_here : cell look (put_byte (look address) byte bytes) address ≡ present s.kind byte
  put_here = rw led (ap (present s.kind) (get_or-set_same bytes s.place byte 0 (places.inside address s led)))

  pub put_there : (other : ℕ) → (other ≡ address → ⊥) → cell look (put_byte (look address) byte bytes) other ≡ cell look bytes other
  put_there other differs = rw led (go (look other) refl)
    where
      go : (spot : Option Spot) → look other ≡ spot → cell_in (set bytes s.place byte) spot ≡ cell_in bytes spot
      go None e = refl
      go (Some t) e = ap (present t.kind) (get_or-set_other bytes s.place t.place byte 0 (λ same. differs (places.apart other address t s e led same)))

pub places_put : (look : Lookup) (bytes : List ℕ) (spot : Option Spot) (byte : ℕ) → Places look (length bytes) → Places look (length (put_byte spot byte bytes))
places_put look bytes spot byte places = subst (Places look) (sym (length_put spot byte bytes)) places
