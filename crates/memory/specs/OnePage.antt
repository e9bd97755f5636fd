-- Numbers whose bytes all lie on one page, where an access lies, and a number stored at a place. The claims of Promises are stated by
-- `one_page` and `further`, the contract of `locate` by `located`, that of `store_at` by `store_at`. The others serve the contracts of private functions. Assumes nothing.
use Rattle.std.specs.Prelude.{ℕ, ◌+◌, ◌-◌, ◌/◌, ◌%◌, ◌≤◌, Bool, true, cond, ◌&&◌, Option, Some, None, Result, Ok, Err, List, length, ltb, leb}
use Rattle.addresses.specs.Address.{canonical}
use Rattle.pages.specs.Pages.{Lookup, page_bytes}
use Rattle.numbers.specs.Numbers.{byte_count, put_at}
use Rattle.accesses.specs.Access.{listed_byte, kind_number, start, probe}
use Rattle.pages.specs.declared.pages.Spot.{Spot}
use Rattle.accesses.specs.declared.access.Access.{Access}
use Rattle.accesses.specs.declared.reach.Failure.{Failure}
use Rattle.accesses.specs.declared.reach.Failure.TheVariants.{NotCanonical}

-- ---- where the bytes lie

-- n bytes, counting up from an address, all lie on its page: they end where the page ends, or before (the claim `OnePageExactly`)
unfoldable pub one_page : ℕ → ℕ → Bool
one_page address n = leb (address % page_bytes + n) page_bytes

-- where a byte leads that lies i bytes further on the same page: nowhere if the first leads nowhere, else to the same kind and i places on
abbrev pub further : ℕ → Option Spot → Option Spot
further i None = None
further i (Some s) = Some (record { kind = s.kind; place = s.place + i })

-- the page that a place lies on is among the lent bytes, and n bytes from the place on lie on it
pub record PageHolds (lent place n : ℕ) : Type 0 where
  pub lent_whole : place - place % page_bytes + page_bytes ≤ lent
  pub inside : place % page_bytes + n ≤ page_bytes

-- ---- trying an access

-- what is found of an access, if trying it finds that it can be done, else why it cannot
abbrev pub located_if : Result (Unit {0}) Failure → Option ℕ → Result (Option ℕ) Failure
located_if (Ok x) found = Ok found
located_if (Err failure) found = Err failure

-- the place of the first byte of an access that is ready; such an access has one, so that the first line never shows
abbrev pub within : Option Spot → Option ℕ
within None = None
within (Some s) = Some s.place

-- what trying any access finds: why it cannot be done, else the place of its first byte where all lie on one page, and none where they lie on two
unfoldable pub located : Lookup → Access → Result (Option ℕ) Failure
located look a = located_if (probe look a) (cond (one_page (start a) (byte_count a.size)) (within (look (start a))) None)

-- whether an address is canonical, where the access asks for that
abbrev pub allowed : Access → ℕ → Bool
allowed a address = cond a.canonical (canonical address) true

-- what trying the first byte alone finds
unfoldable pub first_reach : Lookup → Access → Result (Unit {0}) Failure
first_reach look a = cond (allowed a (start a)) (listed_byte look (kind_number a.kind) (start a)) (Err NotCanonical)

-- the same, with its place
unfoldable pub first_located : Lookup → Access → Result (Option ℕ) Failure
first_located look a = located_if (first_reach look a) (within (look (start a)))

-- what the first byte tells of an access on one page; one on two pages is not tried, and no place is told
unfoldable pub quickly : Lookup → Access → Result (Option ℕ) Failure
quickly look a = cond (one_page (start a) (byte_count a.size)) (first_located look a) (Ok None)

-- ---- bytes stored at a place

-- n bytes from a place on lie on one page, and that is lent whole
unfoldable pub on_lent_page : ℕ → ℕ → ℕ → Bool
on_lent_page lent place n = ltb (place / page_bytes) (lent / page_bytes) && one_page place n

-- the low n bytes of a value, put from a place on where they lie on one lent page, else none of them
unfoldable pub store_at : ℕ → ℕ → ℕ → List ℕ → List ℕ
store_at place n v bytes = cond (on_lent_page (length bytes) place n) (put_at place n v bytes) bytes
