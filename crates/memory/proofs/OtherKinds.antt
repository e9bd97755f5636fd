-- An access does not see pages of kinds other than its own, and a store leaves them alone. Assumes nothing.
use Rattle.std.proofs.Common.{ℕ, zero, suc, ◌<◌, ◌≡◌, refl, sym, ◌∙◌, ap, Bool, true, false, cond, true≢false, List, length, Option, Some, None, Result, Ok, Err, arith}
use Rattle.addresses.specs.Address.{plus}
use Rattle.addresses.specs.declared.address.Width.{Width}
use Rattle.pages.specs.Pages.{Lookup}
use Rattle.pages.specs.declared.pages.Spot.{Spot}
use Rattle.numbers.specs.Numbers.{byte_count}
use Rattle.accesses.specs.Access.{and_then, scan, on_kind, listed_byte, kind_number, start, canonical_bytes, listed_bytes, probe, written}
use Rattle.memory.specs.Extends.{cell, is_listed, is_kind, Places}
use Rattle.accesses.specs.declared.access.Access.{Access}
use Rattle.accesses.specs.declared.reach.Failure.{Failure}
use Rattle.accesses.specs.declared.reach.Failure.TheVariants.{WrongKind}
use Rattle.addresses.proofs.Sums.{Wrapped, wrapped_plus, wrapped_start, one_on}
use Rattle.memory.proofs.Cells.{reached}
use Rattle.memory.proofs.Stored.{written_elsewhere}
use Rattle.memory.proofs.TwoMemories.{ready_turn, probe_ready, scan_alike}

-- ---- trying

-- one byte
same_byte : (kind address : ℕ) (at₁ at₂ : Option Spot) → is_listed at₁ ≡ is_listed at₂ → is_kind kind at₁ ≡ is_kind kind at₂ → on_kind kind address at₁ ≡ on_kind kind address at₂
same_byte kind address None None listed same = refl
same_byte kind address None (Some t) listed same = absurd (true≢false (sym listed))
same_byte kind address (Some s) None listed same = absurd (true≢false listed)
same_byte kind address (Some s) (Some t) listed same = ap (λ (yes : Bool). cond yes (Ok tt) (Err (WrongKind address))) same

-- What trying an access finds depends only on which addresses are listed and which of them are of its kind.
pub same_kind_probe : (look₁ look₂ : Lookup) (a : Access)
    → ((address : ℕ) → is_listed (look₁ address) ≡ is_listed (look₂ address))
    → ((address : ℕ) → is_kind (kind_number a.kind) (look₁ address) ≡ is_kind (kind_number a.kind) (look₂ address))
    → probe look₁ a ≡ probe look₂ a
unfolding probe listed_bytes
same_kind_probe look₁ look₂ a listed same =
    ap (and_then (canonical_bytes a)) (scan_alike (listed_byte look₁ kind) (listed_byte look₂ kind) bytes a.width (start a) (byte_count a.size))
  where
    kind : ℕ
    kind = kind_number a.kind

    bytes : (address : ℕ) → listed_byte look₁ kind address ≡ listed_byte look₂ kind address
    bytes address = same_byte kind address (look₁ address) (look₂ address) (listed address) (same address)

-- ---- storing

-- every byte of an access that is ready passes its test
scan_each : (test : ℕ → Result (Unit {0}) Failure) (w : Width) (address n i : ℕ) → Wrapped w address → i < n → scan test w address n ≡ Ok tt → test (plus w address i) ≡ Ok tt
scan_each test w address zero i at h e = absurd (omega arith)
scan_each test w address (suc n) zero at h e = ap test at ∙ (ready_turn test w address n e).0
scan_each test w address (suc n) (suc i) at h e =
    ap test (sym (one_on w address i)) ∙ scan_each test w (plus w address 1) n i (wrapped_plus w address 1) (omega arith) (ready_turn test w address n e).1

-- a store leaves every address alone that does not lead to a page of its kind
pub written_on_kind : (look : Lookup) (bytes : List ℕ) → Places look (length bytes) → (a : Access) (v other : ℕ)
    → probe look a ≡ Ok tt → is_kind (kind_number a.kind) (look other) ≡ false
    → cell look (written look a v bytes) other ≡ cell look bytes other
unfolding listed_bytes
written_on_kind look bytes places a v other ready off =
    written_elsewhere look bytes places a v other (λ i h e. true≢false (sym (on i h) ∙ ap (λ (n : ℕ). is_kind kind (look n)) (sym e) ∙ off))
  where
    kind : ℕ
    kind = kind_number a.kind

    on : (i : ℕ) → i < byte_count a.size → is_kind kind (look (plus a.width (start a) i)) ≡ true
    on i h =
        let at : ℕ = plus a.width (start a) i in
        let byte = scan_each (listed_byte look kind) a.width (start a) (byte_count a.size) i (wrapped_start a.width a.first) h (probe_ready look a ready).1 in
        let r = reached kind at (look at) byte in
        rw r.spot_is r.kind_is
