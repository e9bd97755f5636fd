-- Where addresses lead: to places among the lent bytes, no two to one place. Assumes nothing.
use Rattle.std.proofs.Common.{ℕ, ◌+◌, ◌*◌, ◌%◌, ◌≡◌, sym, ◌∙◌, ap, List, length, get_or, arith}
use Rattle.pages.specs.Pages.{page_bytes, page_of, spot}
use Rattle.pages.specs.declared.pages.Spot.{Spot}
use Rattle.accesses.proofs.Laws.{Found, behind, spot_inside}
use Rattle.accesses.specs.Access.{lookup_of}
use Rattle.memory.specs.Extends.{Places}

-- an address is given by its page and its offset
same_address : (a b : ℕ) → page_of a ≡ page_of b → a % page_bytes ≡ b % page_bytes → a ≡ b
unfolding page_of
same_address a b p o = omega arith

same_place : (i j m n : ℕ) → page_bytes * i + m % page_bytes ≡ page_bytes * j + n % page_bytes → (i ≡ j) × (m % page_bytes ≡ n % page_bytes)
same_place i j m n e = (omega arith, omega arith)

together : (pages : List ℕ) (lent a b : ℕ) (s t : Spot) → Found pages 0 lent a s → Found pages 0 lent b t → s.place ≡ t.place → a ≡ b
together pages lent a b s t f g same =
    let both = same_place (0 + f.j) (0 + g.j) a b (sym f.place_is ∙ same ∙ g.place_is) in
    let j : f.j ≡ g.j = omega arith in
    same_address a b (sym f.on ∙ ap (λ (n : ℕ). page_of (get_or pages n 0)) j ∙ g.on) both.1

pub spot_places : (pages : List ℕ) (lent : ℕ) → Places (spot pages lent) lent
spot_places pages lent = record {
  inside = spot_inside pages lent;
  apart = λ a b s t e d. together pages lent a b s t (behind pages lent a s e) (behind pages lent b t d);
}

pub lookup_places : (pages bytes : List ℕ) → Places (lookup_of pages bytes) (length bytes)
unfolding lookup_of
lookup_places pages bytes = spot_places pages (length bytes)

-- as long as no byte is added or lost, addresses lead where they led
pub lookup_kept : (pages bytes after : List ℕ) → length after ≡ length bytes → lookup_of pages after ≡ lookup_of pages bytes
unfolding lookup_of
lookup_kept pages bytes after kept = rw kept
