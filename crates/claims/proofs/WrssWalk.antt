-- WRSS walked: it stores once, at its address, and moves IP alone. Assumes nothing.
use Rattle.std.proofs.Common.{◌≡◌, ℕ, ◌%◌, Bool, true, eqb, ◌⊎◌, List, refl, inl, inr}
use Rattle.numbers.specs.Numbers.{byte_count}
use Rattle.pages.specs.Pages.{Lookup}
use Rattle.numbers.specs.declared.size.Size.{Size}
use Rattle.answers.specs.Answer.{ud, gp}
use Rattle.processor.specs.Accesses.{shadow}
use Rattle.processor.specs.Layout.{with_ip}
use Rattle.processor.specs.State.{usable, next}
use Rattle.processor.specs.declared.state.State.{State}
use Rattle.wrss.specs.Wrss.{wrss}
use Rattle.claims.proofs.Walks.{Rule, Walks, end_walks, tested_walks, store_walks}

abbrev pub wrss_rule : Size → ℕ → ℕ → ℕ → State → Rule State
wrss_rule size a b span s =
    record {
      loads = λ access. ⊥;
      stops = λ fault. (fault ≡ ud) ⊎ (fault ≡ gp);
      stores = λ access v. (access ≡ shadow s a size true) × (v ≡ b);
      ends = λ t. t ≡ with_ip s (next s span);
    }

pub wrss_walk : (look : Lookup) (size : Size) (permitted : Bool) (a b span : ℕ) (s : State) (bytes : List ℕ) → Walks look (wrss_rule size a b span s) (wrss size permitted a b span s) bytes
unfolding wrss
wrss_walk look size permitted a b span s bytes =
    tested_walks look rule (usable s) ud _ bytes (inl refl) (λ u.
    tested_walks look rule permitted ud _ bytes (inl refl) (λ p.
    tested_walks look rule (eqb (a % byte_count size) 0) gp _ bytes (inr refl) (λ e.
    store_walks look rule _ _ _ bytes (refl, refl) (end_walks look rule _ _ refl))))
  where
    rule : Rule State
    rule = wrss_rule size a b span s
