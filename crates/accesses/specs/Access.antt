-- An access: whether it can be done, the number that it loads, and the bytes that it leaves (docs/RULES.md, "Reaching a byte"). Assumes nothing.
use Rattle.std.specs.Prelude.{ℕ, zero, suc, ◌+◌, ◌*◌, ◌/◌, ◌%◌, cond, List, length, get_or, set, eqb, Option, Some, None, Result, Ok, Err}
use Rattle.numbers.specs.Numbers.{byte_count}
use Rattle.addresses.specs.Address.{wrapped, plus, canonical}
use Rattle.addresses.specs.declared.address.Width.{Width}
use Rattle.pages.specs.Pages.{Lookup, user_shadow, supervisor_shadow, ordinary, spot}
use Rattle.pages.specs.declared.pages.Spot.{Spot}
use Rattle.accesses.specs.declared.access.Kind.{Kind}
use Rattle.accesses.specs.declared.access.Kind.TheVariants.{UserShadow, SupervisorShadow, Ordinary}
use Rattle.accesses.specs.declared.access.Access.{Access}
use Rattle.accesses.specs.declared.reach.Failure.{Failure}
use Rattle.accesses.specs.declared.reach.Failure.TheVariants.{NotCanonical, NotListed, WrongKind}

-- ---- kinds

abbrev pub kind_number : Kind → ℕ
kind_number UserShadow = user_shadow
kind_number SupervisorShadow = supervisor_shadow
kind_number Ordinary = ordinary

-- ---- where addresses lead

-- Where the addresses of lent pages lead: the one name by which the crates above say it, whatever way they are looked up.
unfoldable pub lookup_of : List ℕ → List ℕ → Lookup
lookup_of pages bytes = spot pages (length bytes)

-- ---- trying an access

-- the first of two findings, if that is a failure, else the second
abbrev pub and_then : Result (Unit {0}) Failure → Result (Unit {0}) Failure → Result (Unit {0}) Failure
and_then (Ok x) next = next
and_then (Err failure) next = Err failure

-- n bytes, counting up from an address: the first whose test fails decides
unfoldable pub scan : (ℕ → Result (Unit {0}) Failure) → Width → ℕ → ℕ → Result (Unit {0}) Failure
scan test w address zero = Ok tt
scan test w address (suc n) = and_then (test address) (scan test w (plus w address 1) n)

abbrev pub canonical_byte : ℕ → Result (Unit {0}) Failure
canonical_byte address = cond (canonical address) (Ok tt) (Err NotCanonical)

-- whether a byte that leads here is on a page of the kind
abbrev pub on_kind : ℕ → ℕ → Option Spot → Result (Unit {0}) Failure
on_kind kind address None = Err (NotListed address)
on_kind kind address (Some found) = cond (eqb found.kind kind) (Ok tt) (Err (WrongKind address))

abbrev pub listed_byte : Lookup → ℕ → ℕ → Result (Unit {0}) Failure
listed_byte look kind address = on_kind kind address (look address)

-- the address of an access's first byte
abbrev pub start : Access → ℕ
start a = wrapped a.width a.first

-- where the access asks for it, every byte's address must be canonical
unfoldable pub canonical_bytes : Access → Result (Unit {0}) Failure
canonical_bytes a = cond a.canonical (scan canonical_byte a.width (start a) (byte_count a.size)) (Ok tt)

-- every byte must lie on a listed page of the access's kind
unfoldable pub listed_bytes : Lookup → Access → Result (Unit {0}) Failure
listed_bytes look a = scan (listed_byte look (kind_number a.kind)) a.width (start a) (byte_count a.size)

-- What trying an access finds: first whether its addresses are canonical, then the pages. The fields `store` and `user` play no part.
unfoldable pub probe : Lookup → Access → Result (Unit {0}) Failure
probe look a = and_then (canonical_bytes a) (listed_bytes look a)

-- ---- loading

-- the byte at a place. 0 stands for no byte; every byte of an access that is ready is there
abbrev pub byte_in : List ℕ → Option Spot → ℕ
byte_in bytes None = 0
byte_in bytes (Some found) = get_or bytes found.place 0

-- the number that n bytes hold, counting up from an address, low byte first
unfoldable pub number : Lookup → List ℕ → Width → ℕ → ℕ → ℕ
number look bytes w address zero = 0
number look bytes w address (suc n) = byte_in bytes (look address) + 256 * number look bytes w (plus w address 1) n

-- what an access loads
unfoldable pub value : Lookup → List ℕ → Access → ℕ
value look bytes a = number look bytes a.width (start a) (byte_count a.size)

abbrev pub loaded_if : Result (Unit {0}) Failure → ℕ → Result ℕ Failure
loaded_if (Ok x) v = Ok v
loaded_if (Err failure) v = Err failure

-- what a load gives
unfoldable pub load : Lookup → List ℕ → Access → Result ℕ Failure
load look bytes a = loaded_if (probe look a) (value look bytes a)

-- ---- storing

abbrev pub put_byte : Option Spot → ℕ → List ℕ → List ℕ
put_byte None byte bytes = bytes
put_byte (Some found) byte bytes = set bytes found.place byte

-- the low n bytes of a value, counting up from an address, low byte first
unfoldable pub write : Lookup → Width → ℕ → ℕ → ℕ → List ℕ → List ℕ
write look w address zero v bytes = bytes
write look w address (suc n) v bytes = write look w (plus w address 1) n (v / 256) (put_byte (look address) (v % 256) bytes)

-- the bytes that an access leaves once it is done
unfoldable pub written : Lookup → Access → ℕ → List ℕ → List ℕ
written look a v bytes = write look a.width (start a) (byte_count a.size) v bytes

abbrev pub stored_if : Result (Unit {0}) Failure → List ℕ → List ℕ → List ℕ
stored_if (Ok x) after before = after
stored_if (Err failure) after before = before

-- what a store leaves: all of the access, or nothing of it
unfoldable pub store : Lookup → Access → ℕ → List ℕ → List ℕ
store look a v bytes = stored_if (probe look a) (written look a v bytes) bytes
