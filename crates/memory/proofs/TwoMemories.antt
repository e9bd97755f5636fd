-- The laws of two memories side by side, over any two lookups. What the first can do the second does alike. Assumes nothing.
use Rattle.std.proofs.Common.{ℕ, zero, suc, ◌/◌, ◌%◌, ◌≡◌, refl, sym, ◌∙◌, ap, ap₂, Bool, true, false, cond, List, length, get_or, eqb, Option, Some, None, Result, Ok, Err, arith}
use native.Mathlib.Decide.{ℕ_discrete}
use Rattle.addresses.specs.Address.{plus}
use Rattle.pages.specs.Pages.{Lookup}
use Rattle.numbers.specs.Numbers.{byte_count}
use Rattle.accesses.specs.Access.{and_then, scan, on_kind, listed_byte, kind_number, start, canonical_bytes, listed_bytes, probe, byte_in, number, put_byte, write, value, loaded_if, load, written, stored_if, store}
use Rattle.memory.specs.Extends.{cell_in, present, cell, Extends, Places}
use Rattle.addresses.specs.declared.address.Width.{Width}
use Rattle.pages.specs.declared.pages.Spot.{Spot}
use Rattle.accesses.specs.declared.access.Access.{Access}
use Rattle.accesses.specs.declared.reach.Failure.{Failure}
use Rattle.accesses.specs.declared.reach.Failure.TheVariants.{NotCanonical, WrongKind}
use Rattle.accesses.proofs.Laws.{load_done, length_put}
use Rattle.memory.proofs.Cells.{reached, cell_at, cell_byte, cell_byte_lem, held, put_here, put_there, places_put}

-- ---- trying

both_ready : (r s : Result (Unit {0}) Failure) → and_then r s ≡ Ok tt → (r ≡ Ok tt) × (s ≡ Ok tt)
both_ready (Ok x) s e = (refl, e)
both_ready (Err failure) s e = let z : ◌≡◌ {A = ℕ} 0 1 = cc in absurd (omega arith)

-- the first byte is ready, and so are those after it
pub ready_turn : (test : ℕ → Result (Unit {0}) Failure) (w : Width) (address n : ℕ) → scan test w address (suc n) ≡ Ok tt → (test address ≡ Ok tt) × (scan test w (plus w address 1) n ≡ Ok tt)
unfolding scan
ready_turn test w address n e = both_ready (test address) (scan test w (plus w address 1) n) e

scan_mono : (t₁ t₂ : ℕ → Result (Unit {0}) Failure) → ((address : ℕ) → t₁ address ≡ Ok tt → t₂ address ≡ Ok tt) → (w : Width) (address n : ℕ) → scan t₁ w address n ≡ Ok tt → scan t₂ w address n ≡ Ok tt
unfolding scan
scan_mono t₁ t₂ more w address zero e = refl
scan_mono t₁ t₂ more w address (suc n) e =
    let turn = ready_turn t₁ w address n e in
    rw (more address turn.0) (scan_mono t₁ t₂ more w (plus w address 1) n turn.1)

pub probe_ready : (look : Lookup) (a : Access) → probe look a ≡ Ok tt → (canonical_bytes a ≡ Ok tt) × (listed_bytes look a ≡ Ok tt)
unfolding probe
probe_ready look a e = both_ready (canonical_bytes a) (listed_bytes look a) e

-- ---- a failure to be canonical does not depend on the pages

listed_byte_never : (look : Lookup) (kind address : ℕ) → listed_byte look kind address ≡ Err NotCanonical → ⊥
listed_byte_never look kind address e = go (look address) e
  where
    go : (spot : Option Spot) → on_kind kind address spot ≡ Err NotCanonical → ⊥
    go None q = let z : ◌≡◌ {A = ℕ} 0 1 = cc in omega arith
    go (Some s) q = on (eqb s.kind kind) q
      where
        on : (t : Bool) → cond {A = Result (Unit {0}) Failure} t (Ok tt) (Err (WrongKind address)) ≡ Err NotCanonical → ⊥
        on true p = let z : ◌≡◌ {A = ℕ} 0 1 = cc in omega arith
        on false p = let z : ◌≡◌ {A = ℕ} 0 1 = cc in omega arith

listed_never : (look : Lookup) (kind : ℕ) (w : Width) (address n : ℕ) → scan (listed_byte look kind) w address n ≡ Err NotCanonical → ⊥
unfolding scan
listed_never look kind w address zero e = let z : ◌≡◌ {A = ℕ} 0 1 = cc in omega arith
listed_never look kind w address (suc n) e = first (listed_byte look kind address) refl (listed_never look kind w (plus w address 1) n) e
  where
    first : (r : Result (Unit {0}) Failure) → listed_byte look kind address ≡ r → (scan (listed_byte look kind) w (plus w address 1) n ≡ Err NotCanonical → ⊥)
        → and_then r (scan (listed_byte look kind) w (plus w address 1) n) ≡ Err NotCanonical → ⊥
    first (Ok x) h later q = later q
    first (Err failure) h later q = listed_byte_never look kind address (h ∙ q)

pub not_canonical_lem : (look₁ look₂ : Lookup) (a : Access) → probe look₁ a ≡ Err NotCanonical → probe look₂ a ≡ Err NotCanonical
unfolding probe listed_bytes
not_canonical_lem look₁ look₂ a e = go (canonical_bytes a) refl e
  where
    go : (r : Result (Unit {0}) Failure) → canonical_bytes a ≡ r → and_then r (listed_bytes look₁ a) ≡ Err NotCanonical → and_then r (listed_bytes look₂ a) ≡ Err NotCanonical
    go (Ok x) h q = absurd (listed_never look₁ (kind_number a.kind) a.width (start a) (byte_count a.size) q)
    go (Err failure) h q = q

-- ---- what the first holds

-- a byte that the first memory reaches, in both
record InBoth (look₁ : Lookup) (bytes₁ : List ℕ) (look₂ : Lookup) (bytes₂ : List ℕ) (kind address : ℕ) : Type 0 where
  found₁ : Spot
  found₂ : Spot
  led₁ : look₁ address ≡ Some found₁
  led₂ : look₂ address ≡ Some found₂
  kind_is : eqb found₁.kind kind ≡ true
  kinds : found₂.kind ≡ found₁.kind
  same : cell look₁ bytes₁ address ≡ cell look₂ bytes₂ address

module _ (look₁ : Lookup) (bytes₁ : List ℕ) (look₂ : Lookup) (bytes₂ lent₂ : List ℕ) (extends : Extends look₁ bytes₁ look₂ bytes₂ lent₂) where
  in_both : (kind address : ℕ) → listed_byte look₁ kind address ≡ Ok tt → InBoth look₁ bytes₁ look₂ bytes₂ kind address
  in_both kind address ready =
      let r = reached kind address (look₁ address) ready in
      let byte : ℕ = get_or bytes₁ r.found.place 0 in
      let here : cell look₁ bytes₁ address ≡ present r.found.kind byte = cell_at bytes₁ (look₁ address) r.found r.spot_is in
      let there = extends.old address r.found.kind byte here in
      let h = held bytes₂ (look₂ address) r.found.kind byte there in
      record { found₁ = r.found; found₂ = h.found; led₁ = r.spot_is; led₂ = h.spot_is; kind_is = r.kind_is; kinds = h.kind_is; same = here ∙ sym there }

  listed_byte_lem : (kind address : ℕ) → listed_byte look₁ kind address ≡ Ok tt → listed_byte look₂ kind address ≡ Ok tt
  listed_byte_lem kind address ready = let b = in_both kind address ready in rw (b.led₂, b.kinds, b.kind_is)

  -- an access that the first can do the second can do
  pub ready_in_second : (a : Access) → probe look₁ a ≡ Ok tt → probe look₂ a ≡ Ok tt
  unfolding probe listed_bytes
  ready_in_second a e =
      let both = probe_ready look₁ a e in
      let kind : ℕ = kind_number a.kind in
      rw both.0 (scan_mono (listed_byte look₁ kind) (listed_byte look₂ kind) (listed_byte_lem kind) a.width (start a) (byte_count a.size) both.1)

  same_byte : (kind address : ℕ) → listed_byte look₁ kind address ≡ Ok tt → byte_in bytes₁ (look₁ address) ≡ byte_in bytes₂ (look₂ address)
  same_byte kind address ready = cell_byte_lem bytes₁ (look₁ address) ∙ ap cell_byte (in_both kind address ready).same ∙ sym (cell_byte_lem bytes₂ (look₂ address))

  same_number : (kind : ℕ) (w : Width) (address n : ℕ) → scan (listed_byte look₁ kind) w address n ≡ Ok tt → number look₁ bytes₁ w address n ≡ number look₂ bytes₂ w address n
  unfolding number
  same_number kind w address zero e = refl
  same_number kind w address (suc n) e =
      let turn = ready_turn (listed_byte look₁ kind) w address n e in
      rw (same_byte kind address turn.0, same_number kind w (plus w address 1) n turn.1)

  -- and it loads the same value
  pub same_value : (a : Access) → probe look₁ a ≡ Ok tt → value look₁ bytes₁ a ≡ value look₂ bytes₂ a
  unfolding value listed_bytes
  same_value a e = same_number (kind_number a.kind) a.width (start a) (byte_count a.size) (probe_ready look₁ a e).1

  -- so the load as a whole is the same
  pub same_load : (a : Access) → probe look₁ a ≡ Ok tt → load look₁ bytes₁ a ≡ load look₂ bytes₂ a
  same_load a e = load_done look₁ bytes₁ a e ∙ ap Ok (same_value a e) ∙ sym (load_done look₂ bytes₂ a (ready_in_second a e))

  -- one byte set in both
  module _ (places₁ : Places look₁ (length bytes₁)) (places₂ : Places look₂ (length bytes₂)) (kind address byte : ℕ) (b : InBoth look₁ bytes₁ look₂ bytes₂ kind address) where
    old_here : (other k v : ℕ) → other ≡ address → cell look₁ (put_byte (look₁ address) byte bytes₁) other ≡ present k v → cell look₂ (put_byte (look₂ address) byte bytes₂) other ≡ present k v
    old_here other k v at e =
        rw at (put_here look₂ bytes₂ places₂ address b.found₂ b.led₂ byte
        ∙ ap (λ (n : ℕ). present n byte) b.kinds
        ∙ sym (put_here look₁ bytes₁ places₁ address b.found₁ b.led₁ byte)
        ∙ rw at at e)

    old_there : (other k v : ℕ) → (other ≡ address → ⊥) → cell look₁ (put_byte (look₁ address) byte bytes₁) other ≡ present k v → cell look₂ (put_byte (look₂ address) byte bytes₂) other ≡ present k v
    old_there other k v off e =
        put_there look₂ bytes₂ places₂ address b.found₂ b.led₂ byte other off
        ∙ extends.old other k v (sym (put_there look₁ bytes₁ places₁ address b.found₁ b.led₁ byte other off) ∙ e)

    -- an address on no page of the first is not the one that was set
    off : (other : ℕ) → look₁ other ≡ None → other ≡ address → ⊥
    off other none at =
        let q : Some b.found₁ ≡ None = sym b.led₁ ∙ ap look₁ (sym at) ∙ none in
        let z : ◌≡◌ {A = ℕ} 0 1 = cc in omega arith

    put_both : Extends look₁ (put_byte (look₁ address) byte bytes₁) look₂ (put_byte (look₂ address) byte bytes₂) lent₂
    put_both = record {
      old = λ other k v e. elim (ℕ_discrete other address) [ yes at ↦ old_here other k v at e | no off ↦ old_there other k v off e ];
      added = λ other none. put_there look₂ bytes₂ places₂ address b.found₂ b.led₂ byte other (off other none) ∙ extends.added other none;
    }

write_both : (look₁ look₂ : Lookup) (lent₂ : List ℕ) (kind : ℕ) (w : Width) (address n v : ℕ) (bytes₁ bytes₂ : List ℕ)
    → Places look₁ (length bytes₁) → Places look₂ (length bytes₂) → Extends look₁ bytes₁ look₂ bytes₂ lent₂ → scan (listed_byte look₁ kind) w address n ≡ Ok tt
    → Extends look₁ (write look₁ w address n v bytes₁) look₂ (write look₂ w address n v bytes₂) lent₂
unfolding write
write_both look₁ look₂ lent₂ kind w address zero v bytes₁ bytes₂ places₁ places₂ extends e = extends
write_both look₁ look₂ lent₂ kind w address (suc n) v bytes₁ bytes₂ places₁ places₂ extends e =
    let turn = ready_turn (listed_byte look₁ kind) w address n e in
    let byte : ℕ = v % 256 in
    write_both look₁ look₂ lent₂ kind w (plus w address 1) n (v / 256) (put_byte (look₁ address) byte bytes₁) (put_byte (look₂ address) byte bytes₂)
    (places_put look₁ bytes₁ (look₁ address) byte places₁)
    (places_put look₂ bytes₂ (look₂ address) byte places₂)
    (put_both look₁ bytes₁ look₂ bytes₂ lent₂ extends places₁ places₂ kind address byte (in_both look₁ bytes₁ look₂ bytes₂ lent₂ extends kind address turn.0))
    turn.1

-- a store that the first can do keeps the relation, and so leaves the added pages untouched
pub store_in_both : (look₁ : Lookup) (bytes₁ : List ℕ) (look₂ : Lookup) (bytes₂ lent₂ : List ℕ) → Places look₁ (length bytes₁) → Places look₂ (length bytes₂) → Extends look₁ bytes₁ look₂ bytes₂ lent₂
    → (a : Access) (v : ℕ) → probe look₁ a ≡ Ok tt → Extends look₁ (written look₁ a v bytes₁) look₂ (written look₂ a v bytes₂) lent₂
unfolding written listed_bytes
store_in_both look₁ bytes₁ look₂ bytes₂ lent₂ places₁ places₂ extends a v e =
    write_both look₁ look₂ lent₂ (kind_number a.kind) a.width (start a) (byte_count a.size) v bytes₁ bytes₂ places₁ places₂ extends (probe_ready look₁ a e).1

-- ---- lengths

length_write : (look : Lookup) (w : Width) (address n v : ℕ) (bytes : List ℕ) → length (write look w address n v bytes) ≡ length bytes
unfolding write
length_write look w address zero v bytes = refl
length_write look w address (suc n) v bytes = length_write look w (plus w address 1) n (v / 256) (put_byte (look address) (v % 256) bytes) ∙ length_put (look address) (v % 256) bytes

-- a store keeps the number of lent bytes
pub length_written : (look : Lookup) (a : Access) (v : ℕ) (bytes : List ℕ) → length (written look a v bytes) ≡ length bytes
unfolding written
length_written look a v bytes = length_write look a.width (start a) (byte_count a.size) v bytes

pub length_stored : (look : Lookup) (a : Access) (v : ℕ) (bytes : List ℕ) → length (store look a v bytes) ≡ length bytes
unfolding store
length_stored look a v bytes = go (probe look a)
  where
    go : (r : Result (Unit {0}) Failure) → length (stored_if r (written look a v bytes) bytes) ≡ length bytes
    go (Ok x) = length_written look a v bytes
    go (Err failure) = refl

-- ---- memories that hold the same at every address

on_kind_alike : (bytes₁ bytes₂ : List ℕ) (kind address : ℕ) (s₁ s₂ : Option Spot) → cell_in bytes₁ s₁ ≡ cell_in bytes₂ s₂ → on_kind kind address s₁ ≡ on_kind kind address s₂
on_kind_alike bytes₁ bytes₂ kind address None None e = refl
on_kind_alike bytes₁ bytes₂ kind address None (Some t) e = let z : ◌≡◌ {A = ℕ} 0 1 = cc in absurd (omega arith)
on_kind_alike bytes₁ bytes₂ kind address (Some s) None e = let z : ◌≡◌ {A = ℕ} 0 1 = cc in absurd (omega arith)
on_kind_alike bytes₁ bytes₂ kind address (Some s) (Some t) e = let same : s.kind ≡ t.kind = cc in rw same

-- bytes in a row, by any test
pub scan_alike : (t₁ t₂ : ℕ → Result (Unit {0}) Failure) → ((address : ℕ) → t₁ address ≡ t₂ address) → (w : Width) (address n : ℕ) → scan t₁ w address n ≡ scan t₂ w address n
unfolding scan
scan_alike t₁ t₂ same w address zero = refl
scan_alike t₁ t₂ same w address (suc n) = rw (same address, scan_alike t₁ t₂ same w (plus w address 1) n)

module _ (look₁ : Lookup) (bytes₁ : List ℕ) (look₂ : Lookup) (bytes₂ : List ℕ) (same : (address : ℕ) → cell look₁ bytes₁ address ≡ cell look₂ bytes₂ address) where
  -- trying finds the same, the address and the reason of a failure included
  pub alike_probe : (a : Access) → probe look₁ a ≡ probe look₂ a
  unfolding probe listed_bytes
  alike_probe a =
      let kind : ℕ = kind_number a.kind in
      ap (and_then (canonical_bytes a))
      (scan_alike (listed_byte look₁ kind) (listed_byte look₂ kind)
      (λ address. on_kind_alike bytes₁ bytes₂ kind address (look₁ address) (look₂ address) (same address)) a.width (start a) (byte_count a.size))

  number_alike : (w : Width) (address n : ℕ) → number look₁ bytes₁ w address n ≡ number look₂ bytes₂ w address n
  unfolding number
  number_alike w address zero = refl
  number_alike w address (suc n) =
      rw (cell_byte_lem bytes₁ (look₁ address) ∙ ap cell_byte (same address) ∙ sym (cell_byte_lem bytes₂ (look₂ address)), number_alike w (plus w address 1) n)

  -- and a load gives the same
  pub alike_load : (a : Access) → load look₁ bytes₁ a ≡ load look₂ bytes₂ a
  unfolding load value
  alike_load a = ap₂ loaded_if (alike_probe a) (number_alike a.width (start a) (byte_count a.size))
