-- The page list: its entries, when it is refused, and what an address leads to (docs/RULES.md, "Pages", "Refusals"). Assumes nothing.
use Rattle.std.specs.Prelude.{ℕ, suc, ◌+◌, ◌*◌, ◌/◌, ◌%◌, Bool, false, not, cond, ◌||◌, List, [], ◌∷◌, length, eqb, ltb, Option, Some, None, Result, Ok, Err}
use Rattle.std.specs.List.{list_any}
use Rattle.addresses.specs.Address.{canonical}
use Rattle.pages.specs.declared.pages.ListError.{ListError}
use Rattle.pages.specs.declared.pages.ListError.TheVariants.{BadLength, BadKind, BadAddress, Repeated}
use Rattle.pages.specs.declared.pages.Spot.{Spot}

-- In all that follows `lent` is how many bytes were lent for the list.

-- ---- limits

-- a page's size in bytes
abbrev pub page_bytes : ℕ
page_bytes = 4096

-- the most entries
abbrev pub page_limit : ℕ
page_limit = 16

-- ---- an entry: a page address, with the kind in its low 12 bits

-- the page address of an entry, and the address of the page that a byte lies on
unfoldable pub page_of : ℕ → ℕ
page_of n = n / page_bytes * page_bytes

unfoldable pub kind_of : ℕ → ℕ
kind_of entry = entry % page_bytes

-- ---- refusals 1 to 4

-- refusal 1: too many entries, or a byte length that is not 4,096 for each
unfoldable pub wrong_length : ℕ → ℕ → Bool
wrong_length entries lent = ltb page_limit entries || not (eqb lent (page_bytes * entries))

-- the kinds of page: user shadow, supervisor shadow, ordinary
abbrev pub user_shadow : ℕ
user_shadow = 1

abbrev pub supervisor_shadow : ℕ
supervisor_shadow = 2

abbrev pub ordinary : ℕ
ordinary = 3

-- refusal 2: the kind is none of the three
unfoldable pub bad_kind : ℕ → Bool
bad_kind entry = not (eqb (kind_of entry) user_shadow || eqb (kind_of entry) supervisor_shadow || eqb (kind_of entry) ordinary)

-- refusal 3: the page address is not canonical
unfoldable pub bad_address : ℕ → Bool
bad_address entry = not (canonical (page_of entry))

-- the entry has this page address
unfoldable pub on_page : ℕ → ℕ → Bool
on_page page entry = eqb (page_of entry) page

-- refusal 4: a page address stands twice
unfoldable pub repeated : List ℕ → Bool
repeated [] = false
repeated (entry ∷ rest) = list_any (on_page (page_of entry)) rest || repeated rest

-- The first rule that the list breaks anywhere decides; a list that breaks none is valid (the papers' term).
unfoldable pub listing : List ℕ → ℕ → Result (Unit {0}) ListError
listing pages lent =
    cond (wrong_length (length pages) lent) (Err BadLength)
    (cond (list_any bad_kind pages) (Err BadKind)
    (cond (list_any bad_address pages) (Err BadAddress)
    (cond (repeated pages) (Err Repeated)
    (Ok tt))))

-- the number that each refusal has
abbrev pub refusal_number : ListError → ℕ
refusal_number BadLength = 1
refusal_number BadKind = 2
refusal_number BadAddress = 3
refusal_number Repeated = 4

-- ---- what an address leads to

-- where addresses lead: to no listed page (`None`), or to a page of a kind and a place among the lent bytes
abbrev pub Lookup : Type 0
Lookup = ℕ → Option Spot

-- on the page of the i-th entry, whose bytes begin at 4,096 * i. A page that was not lent whole counts as not listed
unfoldable pub in_page : ℕ → ℕ → ℕ → ℕ → Option Spot
in_page i entry lent address = cond (ltb i (lent / page_bytes)) (Some (record { kind = kind_of entry; place = page_bytes * i + address % page_bytes })) None

-- the entries from the i-th on
unfoldable pub spot_from : ℕ → List ℕ → ℕ → Lookup
spot_from i [] lent address = None
spot_from i (entry ∷ rest) lent address = cond (on_page (page_of address) entry) (in_page i entry lent address) (spot_from (suc i) rest lent address)

-- a page list with `lent` bytes
unfoldable pub spot : List ℕ → ℕ → Lookup
spot pages lent = spot_from 0 pages lent
