-- RSTORSSP walked: it loads the token at its address, leaves the old SSP there, marked, and moves SSP there. Assumes nothing.
use Rattle.std.proofs.Common.{◌≡◌, ℕ, ◌+◌, ◌%◌, true, eqb, ◌⊎◌, List, refl, inl, inr}
use Rattle.accesses.specs.Access.{value}
use Rattle.pages.specs.Pages.{Lookup}
use Rattle.numbers.specs.declared.size.Size.TheVariants.{Eight}
use Rattle.answers.specs.Answer.{ud, gp, cp_rstorssp}
use Rattle.processor.specs.Accesses.{shadow}
use Rattle.processor.specs.Layout.{with_ip, with_ssp, with_flags}
use Rattle.processor.specs.State.{long_bit, usable, plus, next}
use Rattle.processor.specs.declared.state.State.{State}
use Rattle.processor.specs.Bits.{bit}
use Rattle.rstorssp.specs.Rstorssp.{good_token, restored_flags, rstorssp}
use Rattle.claims.proofs.Walks.{Rule, Walks, end_walks, tested_walks, load_walks, store_walks}

-- where it ends, by the token
pub record Restored (a span : ℕ) (s : State) (token : ℕ) (t : State) : Type 0 where
  pub recognised : usable s ≡ true
  pub aligned : eqb (a % 8) 0 ≡ true
  pub good : good_token s a token ≡ true
  pub state : t ≡ with_ip (with_flags (with_ssp s a) (restored_flags s.flags (bit 2 token))) (next s span)

abbrev pub rstorssp_rule : Lookup → List ℕ → ℕ → ℕ → State → Rule State
rstorssp_rule look bytes a span s =
    record {
      loads = λ access. access ≡ shadow s a Eight true;
      stops = λ fault. (fault ≡ ud) ⊎ (fault ≡ gp) ⊎ (fault ≡ cp_rstorssp);
      stores = λ access v. (access ≡ shadow s a Eight true) × (v ≡ plus s s.ssp (long_bit s + 2));
      ends = Restored a span s (value look bytes (shadow s a Eight true));
    }

pub rstorssp_walk : (look : Lookup) (a span : ℕ) (s : State) (bytes : List ℕ) → Walks look (rstorssp_rule look bytes a span s) (rstorssp a span s) bytes
unfolding rstorssp
rstorssp_walk look a span s bytes =
    tested_walks look rule (usable s) ud _ bytes (inl refl) (λ u.
    tested_walks look rule (eqb (a % 8) 0) gp _ bytes (inr (inl refl)) (λ e.
    load_walks look rule _ _ bytes refl
    (tested_walks look rule (good_token s a _) cp_rstorssp _ bytes (inr (inr refl)) (λ good.
    store_walks look rule _ _ _ bytes (refl, refl)
    (end_walks look rule _ _ record { recognised = u; aligned = e; good = good; state = refl })))))
  where
    rule : Rule State
    rule = rstorssp_rule look bytes a span s
