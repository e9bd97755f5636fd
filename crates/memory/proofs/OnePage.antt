-- Bytes that all lie on one page: the first one's page, kind and place decide those of all (`first_byte_decides`). From that: trying
-- the first byte finds what trying all finds; what is loaded is the number of the bytes in a row from the first one's place on; and a
-- store sets those bytes and no other. Assumes nothing.
use Rattle.std.proofs.Common.{ℕ, zero, suc, ◌+◌, ◌-◌, ◌*◌, ◌/◌, ◌%◌, ◌^◌, ◌<◌, ◌≤◌, ◌≡◌, refl, sym, ◌∙◌, ap, ap₂, Bool, true, false, cond, ◌&&◌, true≢false, List, [], ◌∷◌, length, set, ltb, leb, Option, Some, None, Result, Ok, Err, arith, ltb-true, leb-true, leb-false, le-leb, lt-ltb}
use Rattle.addresses.specs.Address.{plus, canonical}
use Rattle.pages.specs.Pages.{Lookup, page_bytes, page_of, kind_of, on_page, in_page, spot_from, spot}
use Rattle.numbers.specs.Numbers.{byte_count, number_at, put_at}
use Rattle.accesses.specs.Access.{and_then, scan, canonical_byte, listed_byte, lookup_of, kind_number, start, canonical_bytes, listed_bytes, probe, byte_in, number, write, value, load, written, store}
use Rattle.memory.specs.Blocked.{against}
use Rattle.memory.specs.declared.blocked.Blocked.{Blocked}
use Rattle.memory.specs.OnePage.{one_page, further, PageHolds, located_if, within, located, first_reach, first_located, quickly, on_lent_page, store_at}
use Rattle.memory.specs.Promises.{FirstByteDecides, OnePageExactly}
use Rattle.addresses.specs.declared.address.Width.{Width}
use Rattle.addresses.specs.declared.address.Width.TheVariants.{Bits32, Bits64}
use Rattle.pages.specs.declared.pages.Spot.{Spot}
use Rattle.numbers.specs.declared.size.Size.{Size}
use Rattle.accesses.specs.declared.access.Access.{Access}
use Rattle.accesses.specs.declared.reach.Failure.{Failure}
use Rattle.accesses.specs.declared.reach.Failure.TheVariants.{NotCanonical}
use Rattle.numbers.proofs.Laws.{at_least_four, at_most_eight}
use Rattle.accesses.proofs.Laws.{load_done, store_done, behind, spot_page, scan_turn}
use Rattle.memory.proofs.Cells.{reached}
use Rattle.addresses.proofs.Sums.{Wrapped, wrapped_plus, wrapped_start, one_on}

-- a page of a kind, and a place on it
abbrev at : ℕ → ℕ → Option Spot
at kind place = Some (record { kind = kind; place = place })

-- ---- one page, one entry

module _ (address i : ℕ) (same : address % page_bytes + i < page_bytes) where
  same_page : page_of (address + i) ≡ page_of address
  unfolding page_of
  same_page = omega arith

  same_offset : (address + i) % page_bytes ≡ address % page_bytes + i
  same_offset = omega arith

  in_page_further : (j entry lent : ℕ) → in_page j entry lent (address + i) ≡ further i (in_page j entry lent address)
  unfolding in_page
  in_page_further j entry lent = rw same_offset (go (ltb j (lent / page_bytes)))
    where
      go : (t : Bool) → cond t (at (kind_of entry) (page_bytes * j + (address % page_bytes + i))) None ≡ further i (cond t (at (kind_of entry) (page_bytes * j + address % page_bytes)) None)
      go true = ap (at (kind_of entry)) (omega arith)
      go false = refl

  from_further : (pages : List ℕ) (j lent : ℕ) → spot_from j pages lent (address + i) ≡ further i (spot_from j pages lent address)
  unfolding spot_from
  from_further [] j lent = refl
  from_further (entry ∷ rest) j lent =
      rw (same_page, in_page_further j entry lent, from_further rest (suc j) lent)
      (go (on_page (page_of address) entry) (in_page j entry lent address) (spot_from (suc j) rest lent address))
    where
      go : (t : Bool) (here there : Option Spot) → cond t (further i here) (further i there) ≡ further i (cond t here there)
      go true here there = refl
      go false here there = refl

  -- where an address leads, an address further on the same page leads as far on
  spot_further : (pages : List ℕ) (lent : ℕ) → spot pages lent (address + i) ≡ further i (spot pages lent address)
  unfolding spot
  spot_further pages lent = from_further pages 0 lent

  -- and it is canonical where that one is
  canonical_further : canonical (address + i) ≡ canonical address
  unfolding canonical
  canonical_further = let top : (address + i) / 2 ^ 47 ≡ address / 2 ^ 47 = omega arith in rw top

  -- no address on a page wraps
  no_wrap : (w : Width) → Wrapped w address → plus w address i ≡ address + i
  unfolding plus
  no_wrap Bits32 at = omega arith
  no_wrap Bits64 at = omega arith

-- ---- an access on one page

-- an access has a byte
some : (size : Size) → 0 < byte_count size
some size = omega (arith, at_least_four size)

-- its bytes end where the page ends, or before
ends_on_page : (a : Access) → one_page (start a) (byte_count a.size) ≡ true → start a % page_bytes + byte_count a.size ≤ page_bytes
unfolding one_page
ends_on_page a one = leb-true _ _ one

module _ (a : Access) (one : one_page (start a) (byte_count a.size) ≡ true) (i : ℕ) (among : i < byte_count a.size) where
  on_its_page : start a % page_bytes + i < page_bytes
  on_its_page = omega (arith, ends_on_page a one)

  address_further : plus a.width (start a) i ≡ start a + i
  address_further = no_wrap (start a) i on_its_page a.width (wrapped_start a.width a.first)

pub first_byte_decides : FirstByteDecides
first_byte_decides pages lent a one i among =
    let on = on_its_page a one i among in (
      ap page_of (address_further a one i among) ∙ same_page (start a) i on,
      ap (spot pages lent) (address_further a one i among) ∙ spot_further (start a) i on pages lent,
    )

-- the last byte's page is another where the bytes run past the end of the page
runs_over : (w : Width) (address n : ℕ) → Wrapped w address → 0 < n → n ≤ 8 → page_bytes < address % page_bytes + n → page_of (plus w address (n - 1)) ≡ page_of address → ⊥
unfolding page_of plus
runs_over Bits32 address n at some most over same = omega arith
runs_over Bits64 address n at some most over same = omega arith

pub one_page_exactly : OnePageExactly
unfolding one_page
one_page_exactly a same = go (leb (start a % page_bytes + byte_count a.size) page_bytes) refl
  where
    go : (t : Bool) → leb (start a % page_bytes + byte_count a.size) page_bytes ≡ t → t ≡ true
    go true e = refl
    go false e =
        let n : ℕ = byte_count a.size in
        let last : n - 1 < n = omega (arith, some a.size) in
        absurd (runs_over a.width (start a) n (wrapped_start a.width a.first) (some a.size) (at_most_eight a.size) (leb-false _ _ e) (same (n - 1) last))

-- ---- trying it

scan_all : (test : ℕ → Result (Unit {0}) Failure) (w : Width) (address n : ℕ) → Wrapped w address → ((i : ℕ) → i < n → test (plus w address i) ≡ Ok tt) → scan test w address n ≡ Ok tt
unfolding scan
scan_all test w address zero at each = refl
scan_all test w address (suc n) at each =
    rw (ap test (sym at) ∙ each 0 (omega arith))
    (scan_all test w (plus w address 1) n (wrapped_plus w address 1) (λ i h. ap test (one_on w address i) ∙ each (suc i) (omega arith)))

-- where the first byte being ready means that every byte is, the first decides
scan_first : (test : ℕ → Result (Unit {0}) Failure) (w : Width) (address n : ℕ) → Wrapped w address → 0 < n → ((i : ℕ) → i < n → test address ≡ Ok tt → test (plus w address i) ≡ Ok tt)
    → scan test w address n ≡ test address
scan_first test w address n at more each = go (test address) refl
  where
    go : (r : Result (Unit {0}) Failure) → test address ≡ r → scan test w address n ≡ r
    go (Ok x) e = scan_all test w address n at (λ i h. each i h e)
    go (Err failure) e = scan_turn n more test w address ∙ ap (λ (r : Result (Unit {0}) Failure). and_then r (scan test w (plus w address 1) (n - 1))) e

module _ (look : Lookup) (a : Access) (one : one_page (start a) (byte_count a.size) ≡ true)
    (decides : (i : ℕ) → i < byte_count a.size → look (plus a.width (start a) i) ≡ further i (look (start a))) where
  listed_first : listed_bytes look a ≡ listed_byte look (kind_number a.kind) (start a)
  unfolding listed_bytes
  listed_first =
      let kind : ℕ = kind_number a.kind in
      scan_first (listed_byte look kind) a.width (start a) (byte_count a.size) (wrapped_start a.width a.first) (some a.size)
      (λ i h ready. let r = reached kind (start a) (look (start a)) ready in rw (decides i h, r.spot_is, r.kind_is))

  canonical_first : canonical_bytes a ≡ cond a.canonical (canonical_byte (start a)) (Ok tt)
  unfolding canonical_bytes
  canonical_first =
      ap (λ (r : Result (Unit {0}) Failure). cond a.canonical r (Ok tt))
      (scan_first canonical_byte a.width (start a) (byte_count a.size) (wrapped_start a.width a.first) (some a.size)
      (λ i h ready. rw (address_further a one i h, canonical_further (start a) i (on_its_page a one i h)) ready))

  first_reach_lem : probe look a ≡ first_reach look a
  unfolding probe first_reach
  first_reach_lem = rw (canonical_first, listed_first) (go a.canonical (canonical (start a)) (listed_byte look (kind_number a.kind) (start a)))
    where
      go : (asked fits : Bool) (next : Result (Unit {0}) Failure) → and_then (cond asked (cond fits (Ok tt) (Err NotCanonical)) (Ok tt)) next ≡ cond (cond asked fits true) next (Err NotCanonical)
      go true true next = refl
      go true false next = refl
      go false fits next = refl

  -- what trying the first byte finds is what trying the access finds
  pub first_located_lem : first_located look a ≡ located look a
  unfolding located first_located
  first_located_lem = rw (first_reach_lem, one)

-- ---- what `located` tells

-- an access that can be done, whose bytes lie on one page from a place on
pub record Placed (look : Lookup) (a : Access) (place : ℕ) : Type 0 where
  pub ready : probe look a ≡ Ok tt
  pub one : one_page (start a) (byte_count a.size) ≡ true
  pub kind : ℕ
  pub led : look (start a) ≡ at kind place

-- an access that cannot be done, and the failure that is held against it
pub record Failed (look : Lookup) (a : Access) (blocked : Blocked) : Type 0 where
  pub probed : probe look a ≡ Err blocked.failure
  pub named : blocked ≡ record { access = a; failure = blocked.failure }

-- what each answer says of what trying the access finds, and a place of where it lies
abbrev pub Told : Lookup → Access → Result (Option ℕ) Failure → Type 0
Told look a (Ok (Some place)) = Placed look a place
Told look a (Ok None) = probe look a ≡ Ok tt
Told look a (Err failure) = probe look a ≡ Err failure

pub told : (look : Lookup) (a : Access) (answer : Result (Option ℕ) Failure) → answer ≡ located look a → Told look a answer
unfolding located
told look a answer e = rw e (go (probe look a) refl (one_page (start a) (byte_count a.size)) refl (look (start a)) refl)
  where
    go : (r : Result (Unit {0}) Failure) → probe look a ≡ r → (t : Bool) → one_page (start a) (byte_count a.size) ≡ t → (s : Option Spot) → look (start a) ≡ s
        → Told look a (located_if r (cond t (within s) None))
    go (Ok x) h true one None none = h
    go (Ok x) h true one (Some s) led = record { ready = h; one = one; kind = s.kind; led = led }
    go (Ok x) h false two s led = h
    go (Err failure) h t one s led = h

-- where the bytes do not all lie on one page, no place is told
across : (look : Lookup) (a : Access) → one_page (start a) (byte_count a.size) ≡ false → located look a ≡ located_if (probe look a) None
unfolding located
across look a two = rw two

-- what the quick answer tells: the same, but where no place is told nothing that trying every byte does not tell
abbrev QuickTold : Lookup → Access → Result (Option ℕ) Blocked → Type 0
QuickTold look a (Ok (Some place)) = Placed look a place
QuickTold look a (Ok None) = located look a ≡ located_if (probe look a) None
QuickTold look a (Err blocked) = Failed look a blocked

quick_told : (pages : List ℕ) (lent : ℕ) (a : Access) (answer : Result (Option ℕ) Blocked) → answer ≡ against a (quickly (spot pages lent) a) → QuickTold (spot pages lent) a answer
unfolding quickly
quick_told pages lent a answer e = rw e (go (one_page (start a) (byte_count a.size)) refl)
  where
    look : Lookup
    look = spot pages lent

    as_told : (found : Result (Option ℕ) Failure) → found ≡ located look a → QuickTold look a (against a found)
    as_told (Ok (Some place)) q = told look a (Ok (Some place)) q
    as_told (Ok None) q = rw (told look a (Ok None) q) (sym q)
    as_told (Err failure) q = record { probed = told look a (Err failure) q; named = refl }

    go : (t : Bool) → one_page (start a) (byte_count a.size) ≡ t → QuickTold look a (against a (cond t (first_located look a) (Ok None)))
    go true one = as_told (first_located look a) (first_located_lem look a one (λ i h. (first_byte_decides pages lent a one i h).1))
    go false two = across look a two

-- so from a call of `quick`: the first byte's place, bytes on two pages, or a failure
module _ (pages : List ℕ) (lent : ℕ) (a : Access) {answer : Result (Option ℕ) Blocked} (e : answer ≡ against a (quickly (spot pages lent) a)) where
  pub one_told : {found : Option ℕ} {place : ℕ} → answer ≡ Ok found → found ≡ Some place → Placed (spot pages lent) a place
  one_told {place = place} is there = quick_told pages lent a (Ok (Some place)) (sym (is ∙ ap Ok there) ∙ e)

  pub two_told : {found : Option ℕ} → answer ≡ Ok found → found ≡ None → located (spot pages lent) a ≡ located_if (probe (spot pages lent) a) None
  two_told is none = quick_told pages lent a (Ok None) (sym (is ∙ ap Ok none) ∙ e)

  pub failure_told : {blocked : Blocked} → answer ≡ Err blocked → Failed (spot pages lent) a blocked
  failure_told {blocked = blocked} is = quick_told pages lent a (Err blocked) (sym is ∙ e)

-- and back
module _ (look : Lookup) (a : Access) where
  pub placed_located : (place : ℕ) → Placed look a place → Ok (Some place) ≡ located look a
  unfolding located
  placed_located place placed = rw (placed.ready, placed.one, placed.led)

  pub failed_located : (failure : Failure) → probe look a ≡ Err failure → located look a ≡ Err failure
  unfolding located
  failed_located failure e = rw e

-- ---- bytes in a row

-- n bytes, counting up from an address, lead to places in a row
record Row (look : Lookup) (w : Width) (address n kind place : ℕ) : Type 0 where
  on_width : Wrapped w address
  led : (i : ℕ) → i < n → look (plus w address i) ≡ at kind (place + i)

module _ (look : Lookup) (w : Width) (address n kind place : ℕ) (row : Row look w address (suc n) kind place) where
  row_first : look address ≡ at kind place
  row_first = ap look (sym row.on_width) ∙ row.led 0 (omega arith) ∙ ap (at kind) (omega arith)

  row_rest : Row look w (plus w address 1) n kind (suc place)
  row_rest = record {
    on_width = wrapped_plus w address 1;
    led = λ i h. ap look (one_on w address i) ∙ row.led (suc i) (omega arith) ∙ ap (at kind) (omega arith);
  }

number_row : (look : Lookup) (bytes : List ℕ) (w : Width) (address n kind place : ℕ) → Row look w address n kind place → number look bytes w address n ≡ number_at bytes place n
unfolding number number_at
number_row look bytes w address zero kind place row = refl
number_row look bytes w address (suc n) kind place row =
    ap₂ (λ (s : Option Spot) (rest : ℕ). byte_in bytes s + 256 * rest) (row_first look w address n kind place row)
    (number_row look bytes w (plus w address 1) n kind (suc place) (row_rest look w address n kind place row))

write_row : (look : Lookup) (w : Width) (address n v kind place : ℕ) (bytes : List ℕ) → Row look w address n kind place → write look w address n v bytes ≡ put_at place n v bytes
unfolding write put_at
write_row look w address zero v kind place bytes row = refl
write_row look w address (suc n) v kind place bytes row =
    rw (row_first look w address n kind place row)
    (write_row look w (plus w address 1) n (v / 256) kind (suc place) (set bytes place (v % 256)) (row_rest look w address n kind place row))

-- ---- what an access on one page loads and stores

module _ (pages : List ℕ) (lent : ℕ) (a : Access) (place : ℕ) (placed : Placed (spot pages lent) a place) where
  its_row : Row (spot pages lent) a.width (start a) (byte_count a.size) placed.kind place
  its_row = record {
    on_width = wrapped_start a.width a.first;
    led = λ i h. (first_byte_decides pages lent a placed.one i h).1 ∙ ap (further i) placed.led;
  }

  -- the page is lent whole, and the bytes are on it
  pub page_holds : PageHolds lent place (byte_count a.size)
  unfolding one_page
  page_holds =
      let s : Spot = record { kind = placed.kind; place = place } in
      let found = behind pages lent (start a) s placed.led in
      let inside : start a % page_bytes + byte_count a.size ≤ page_bytes = leb-true _ _ placed.one in
      record { lent_whole = spot_page pages lent (start a) s placed.led; inside = omega arith }

  -- a load gives the number that the bytes in a row hold
  pub load_placed : (bytes : List ℕ) → load (spot pages lent) bytes a ≡ Ok (number_at bytes place (byte_count a.size))
  unfolding value
  load_placed bytes =
      load_done (spot pages lent) bytes a placed.ready
      ∙ ap Ok (number_row (spot pages lent) bytes a.width (start a) (byte_count a.size) placed.kind place its_row)

  -- a store sets those bytes
  pub store_placed : (v : ℕ) (bytes : List ℕ) → store (spot pages lent) a v bytes ≡ put_at place (byte_count a.size) v bytes
  unfolding written
  store_placed v bytes =
      store_done (spot pages lent) bytes a v placed.ready
      ∙ write_row (spot pages lent) a.width (start a) (byte_count a.size) v placed.kind place bytes its_row

-- ---- bytes stored at any place

module _ (lent place n : ℕ) where
  pub page_lies : on_lent_page lent place n ≡ true → PageHolds lent place n
  unfolding on_lent_page one_page
  page_lies e = go (ltb (place / page_bytes) (lent / page_bytes)) refl (leb (place % page_bytes + n) page_bytes) refl e
    where
      go : (whole : Bool) → ltb (place / page_bytes) (lent / page_bytes) ≡ whole → (one : Bool) → leb (place % page_bytes + n) page_bytes ≡ one → (whole && one) ≡ true → PageHolds lent place n
      go true w true o q = record { lent_whole = omega (arith, ltb-true _ _ w); inside = leb-true _ _ o }
      go true w false o q = absurd (true≢false (sym q))
      go false w one o q = absurd (true≢false (sym q))

  lies_page : PageHolds lent place n → on_lent_page lent place n ≡ true
  unfolding on_lent_page one_page
  lies_page on = rw (lt-ltb (place / page_bytes) (lent / page_bytes) (omega (arith, on.lent_whole)), le-leb (place % page_bytes + n) page_bytes on.inside)

-- at the place that `located` tells of an access, what is stored there is what the access leaves
pub placed_written : (pages bytes : List ℕ) (a : Access) (place : ℕ) → located (lookup_of pages bytes) a ≡ Ok (Some place)
    → (v : ℕ) (now : List ℕ) → length now ≡ length bytes → store_at place (byte_count a.size) v now ≡ written (lookup_of pages bytes) a v now
unfolding lookup_of store_at
placed_written pages bytes a place e v now kept =
    let placed = told (spot pages (length bytes)) a (Ok (Some place)) (sym e) in
    let on = page_holds pages (length bytes) a place placed in
    rw (kept, lies_page (length bytes) place (byte_count a.size) on)
    (sym (store_placed pages (length bytes) a place placed v now) ∙ store_done (spot pages (length bytes)) now a v placed.ready)
