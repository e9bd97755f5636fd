-- What a store leaves: the value where it was stored, and every other address as it was. Assumes nothing.
use Rattle.std.proofs.Common.{ℕ, zero, suc, ◌+◌, ◌*◌, ◌/◌, ◌%◌, ◌^◌, ◌<◌, ◌≤◌, ◌≡◌, refl, sym, ◌∙◌, ap, ap₂, List, length, Option, Some, None, Ok, arith}
use lib.Pow.{mod-pow-add}
use Rattle.addresses.specs.Address.{plus}
use Rattle.pages.specs.Pages.{Lookup}
use Rattle.numbers.specs.Numbers.{byte_count}
use Rattle.accesses.specs.Access.{scan, listed_byte, byte_in, number, put_byte, write, kind_number, start, listed_bytes, probe, value, written}
use Rattle.memory.specs.Extends.{cell, Places}
use Rattle.addresses.specs.declared.address.Width.{Width}
use Rattle.addresses.specs.declared.address.Width.TheVariants.{Bits32, Bits64}
use Rattle.pages.specs.declared.pages.Spot.{Spot}
use Rattle.accesses.specs.declared.access.Access.{Access}
use Rattle.numbers.proofs.Laws.{at_most_eight}
use Rattle.memory.proofs.Cells.{reached, cell_byte, cell_byte_lem, put_here, put_there, places_put}
use Rattle.addresses.proofs.Sums.{Wrapped, wrapped_plus, wrapped_start, one_on}
use Rattle.memory.proofs.TwoMemories.{ready_turn, probe_ready}

-- ---- the addresses of an access

-- the next few addresses are other ones
not_back : (w : Width) (a i : ℕ) → Wrapped w a → i < 8 → a ≡ plus w (plus w a 1) i → ⊥
unfolding plus
not_back Bits32 a i h k e = omega arith
not_back Bits64 a i h k e = omega arith

-- ---- every other address

put_elsewhere : (look : Lookup) (bytes : List ℕ) → Places look (length bytes) → (address byte other : ℕ) → (other ≡ address → ⊥)
    → cell look (put_byte (look address) byte bytes) other ≡ cell look bytes other
put_elsewhere look bytes places address byte other off = go (look address) refl
  where
    go : (spot : Option Spot) → look address ≡ spot → cell look (put_byte spot byte bytes) other ≡ cell look bytes other
    go None e = refl
    go (Some s) e = ap (λ (spot : Option Spot). cell look (put_byte spot byte bytes) other) (sym e) ∙ put_there look bytes places address s e byte other off

write_elsewhere : (look : Lookup) (w : Width) (address n v : ℕ) (bytes : List ℕ) → Places look (length bytes) → Wrapped w address → (other : ℕ) → ((i : ℕ) → i < n → other ≡ plus w address i → ⊥)
    → cell look (write look w address n v bytes) other ≡ cell look bytes other
unfolding write
write_elsewhere look w address zero v bytes places h other off = refl
write_elsewhere look w address (suc n) v bytes places h other off =
    write_elsewhere look w (plus w address 1) n (v / 256) (put_byte (look address) (v % 256) bytes) (places_put look bytes (look address) (v % 256) places) (wrapped_plus w address 1) other
    (λ i k e. off (suc i) (omega arith) (e ∙ one_on w address i))
    ∙ put_elsewhere look bytes places address (v % 256) other (λ e. off 0 (omega arith) (e ∙ sym h))

-- an address that is none of a store's holds what it held
pub written_elsewhere : (look : Lookup) (bytes : List ℕ) → Places look (length bytes) → (a : Access) (v other : ℕ) → ((i : ℕ) → i < byte_count a.size → other ≡ plus a.width (start a) i → ⊥)
    → cell look (written look a v bytes) other ≡ cell look bytes other
unfolding written
written_elsewhere look bytes places a v other off = write_elsewhere look a.width (start a) (byte_count a.size) v bytes places (wrapped_start a.width a.first) other off

-- ---- the value that was stored

-- a byte and the bytes above it
digits : (v n : ℕ) → v % 256 + 256 * (v / 256 % 2 ^ (8 * n)) ≡ v % 2 ^ (8 * suc n)
digits v n =
    let split : v % 2 ^ (8 * n + 8) ≡ (v / 2 ^ 8 % 2 ^ (8 * n)) * 2 ^ 8 + v % 2 ^ 8 = mod-pow-add v (8 * n) 8 in
    let more : 8 * suc n ≡ 8 * n + 8 = omega arith in
    rw (more, split) (omega arith)

number_written : (look : Lookup) (kind : ℕ) (w : Width) (address n v : ℕ) (bytes : List ℕ) → Places look (length bytes) → Wrapped w address → n ≤ 8 → scan (listed_byte look kind) w address n ≡ Ok tt
    → number look (write look w address n v bytes) w address n ≡ v % 2 ^ (8 * n)
unfolding number write
number_written look kind w address zero v bytes places h k e = omega arith
number_written look kind w address (suc n) v bytes places h k e =
    let turn = ready_turn (listed_byte look kind) w address n e in
    let r = reached kind address (look address) turn.0 in
    let put : List ℕ = put_byte (look address) (v % 256) bytes in
    let places' = places_put look bytes (look address) (v % 256) places in
    let after : List ℕ = write look w (plus w address 1) n (v / 256) put in
    let kept : cell look after address ≡ cell look put address
    = write_elsewhere look w (plus w address 1) n (v / 256) put places' (wrapped_plus w address 1) address (λ i j q. not_back w address i h (omega arith) q) in
    let here : byte_in after (look address) ≡ v % 256
    = cell_byte_lem after (look address) ∙ ap cell_byte (kept ∙ put_here look bytes places address r.found r.spot_is (v % 256)) in
    ap₂ (λ (b rest : ℕ). b + 256 * rest) here (number_written look kind w (plus w address 1) n (v / 256) put places' (wrapped_plus w address 1) (omega arith) turn.1)
    ∙ digits v n

-- a load of what was stored gives its low bytes back
pub value_written : (look : Lookup) (bytes : List ℕ) → Places look (length bytes) → (a : Access) (v : ℕ) → probe look a ≡ Ok tt
    → value look (written look a v bytes) a ≡ v % 2 ^ (8 * byte_count a.size)
unfolding written value listed_bytes
value_written look bytes places a v e =
    number_written look (kind_number a.kind) a.width (start a) (byte_count a.size) v bytes places (wrapped_start a.width a.first) (at_most_eight a.size) (probe_ready look a e).1
