-- The claims on bytes that all lie on one page (docs/RULES.md, "Reaching a byte"). The theorem `promised` (proofs/Promised.antt) is of the
-- last type here, so a claim that lost its proof would be an error. Assumes nothing.
use Rattle.std.specs.Prelude.{ℕ, ◌<◌, ◌≡◌, true, List}
use Rattle.numbers.specs.Numbers.{byte_count}
use Rattle.addresses.specs.Address.{plus}
use Rattle.pages.specs.Pages.{page_of, spot}
use Rattle.accesses.specs.Access.{start}
use Rattle.accesses.specs.declared.access.Access.{Access}
use Rattle.memory.specs.OnePage.{one_page, further}

-- Where an access lies on one page, each of its bytes lies on the first one's page, and leads where the first one leads, as many places
-- further as it is bytes further. So the first byte's page, kind and place decide those of every byte, for any page list.
abbrev pub FirstByteDecides : Type 0
FirstByteDecides = (pages : List ℕ) (lent : ℕ) (a : Access) → one_page (start a) (byte_count a.size) ≡ true → (i : ℕ) → i < byte_count a.size
    → (page_of (plus a.width (start a) i) ≡ page_of (start a)) × (spot pages lent (plus a.width (start a) i) ≡ further i (spot pages lent (start a)))

-- And `one_page` is no narrower than that: it holds of every access whose bytes all lie on the first one's page.
abbrev pub OnePageExactly : Type 0
OnePageExactly = (a : Access) → ((i : ℕ) → i < byte_count a.size → page_of (plus a.width (start a) i) ≡ page_of (start a))
    → one_page (start a) (byte_count a.size) ≡ true

pub record Promises : Type 0 where
  pub first_byte_decides : FirstByteDecides
  pub one_page_exactly : OnePageExactly
