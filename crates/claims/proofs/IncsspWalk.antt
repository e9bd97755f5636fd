-- INCSSP walked: it loads the first and the last element popped, stores nothing, and moves SSP past all of them. Assumes nothing.
use Rattle.std.proofs.Common.{◌≡◌, ℕ, ◌-◌, ◌*◌, ◌%◌, false, ltb, ◌⊎◌, List, refl, inl, inr}
use Rattle.numbers.specs.Numbers.{byte_count}
use Rattle.pages.specs.Pages.{Lookup}
use Rattle.numbers.specs.declared.size.Size.{Size}
use Rattle.answers.specs.Answer.{ud}
use Rattle.processor.specs.Accesses.{shadow}
use Rattle.processor.specs.Layout.{with_ip, with_ssp}
use Rattle.processor.specs.State.{usable, plus, next}
use Rattle.processor.specs.declared.state.State.{State}
use Rattle.incssp.specs.Incssp.{incssp}
use Rattle.claims.proofs.Walks.{Rule, Walks, end_walks, tested_walks, touch_walks, only_walks}

abbrev pub incssp_rule : Size → ℕ → ℕ → State → Rule State
incssp_rule size b span s =
    record {
      loads = λ a. (a ≡ shadow s s.ssp size false) ⊎ (a ≡ shadow s (plus s s.ssp (byte_count size * (b % 256 - 1))) size false);
      stops = λ fault. fault ≡ ud;
      stores = λ a v. ⊥;
      ends = λ t. t ≡ with_ip (with_ssp s (plus s s.ssp (byte_count size * (b % 256)))) (next s span);
    }

pub incssp_walk : (look : Lookup) (size : Size) (b span : ℕ) (s : State) (bytes : List ℕ) → Walks look (incssp_rule size b span s) (incssp size b span s) bytes
unfolding incssp
incssp_walk look size b span s bytes =
    tested_walks look rule (usable s) ud _ bytes refl (λ u.
    touch_walks look rule _ _ bytes (inl refl)
    (only_walks look rule (ltb 0 (b % 256)) _ _ bytes
    (λ some. touch_walks look rule _ _ bytes (inr refl) (end_walks look rule _ bytes refl))
    (λ none. end_walks look rule _ bytes refl)))
  where
    rule : Rule State
    rule = incssp_rule size b span s
