-- WRUSS walked: it stores once, at its address on a user's shadow stack, and moves IP alone. Assumes nothing.
use Rattle.std.proofs.Common.{◌≡◌, ℕ, ◌%◌, eqb, ◌⊎◌, List, refl, inl, inr}
use Rattle.numbers.specs.Numbers.{byte_count}
use Rattle.pages.specs.Pages.{Lookup}
use Rattle.numbers.specs.declared.size.Size.{Size}
use Rattle.answers.specs.Answer.{ud, gp}
use Rattle.processor.specs.Layout.{with_ip}
use Rattle.processor.specs.State.{next}
use Rattle.processor.specs.declared.state.State.{State}
use Rattle.wruss.specs.Wruss.{recognised, user_store, wruss}
use Rattle.claims.proofs.Walks.{Rule, Walks, end_walks, tested_walks, store_walks}

abbrev pub wruss_rule : Size → ℕ → ℕ → ℕ → State → Rule State
wruss_rule size a b span s =
    record {
      loads = λ access. ⊥;
      stops = λ fault. (fault ≡ ud) ⊎ (fault ≡ gp);
      stores = λ access v. (access ≡ user_store s a size) × (v ≡ b);
      ends = λ t. t ≡ with_ip s (next s span);
    }

pub wruss_walk : (look : Lookup) (size : Size) (a b span : ℕ) (s : State) (bytes : List ℕ) → Walks look (wruss_rule size a b span s) (wruss size a b span s) bytes
unfolding wruss
wruss_walk look size a b span s bytes =
    tested_walks look rule (recognised s) ud _ bytes (inl refl) (λ r.
    tested_walks look rule (eqb s.cpl 0) gp _ bytes (inr refl) (λ kernel.
    tested_walks look rule (eqb (a % byte_count size) 0) gp _ bytes (inr refl) (λ e.
    store_walks look rule _ _ _ bytes (refl, refl) (end_walks look rule _ _ refl))))
  where
    rule : Rule State
    rule = wruss_rule size a b span s
