-- What an input that passed the tests before a run has, and back. Assumes nothing.
use Prim.Native.Nat.{ℕ, ◌/◌, ◌%◌, ◌<◌, ◌≤◌}
use mathlib.Core.Path.{◌≡◌, refl}
use mathlib.Core.Bool.{Bool, true, false, not, cond, ◌||◌}
use native.Mathlib.Omega.{arith}
use lib.ListN.{length}
use lib.Dec.{eqb, ltb}
use borrow.Author.Tests.{le-ltb, eq-eqb, eqb-true, ltb-false, not-false}
use Rattle.std.proofs.Common.{Result, Ok, Err}
use Rattle.pages.specs.Pages.{page_limit, listing}
use Rattle.pages.specs.declared.pages.ListError.{ListError}
use Rattle.pages.proofs.Laws.{ValidList, valid_list, list_valid, too_many_entries}
use Rattle.answers.specs.declared.answer.Refusal.{Refusal}
use Rattle.answers.specs.declared.answer.Refusal.TheVariants.{Length}
use Rattle.state_words.specs.Formed.{good_state}
use Rattle.replay.specs.Run.{instruction_limit, bad_words, after_pages, check_by}
use Rattle.sheet.specs.Lent.{Buffers, tested}

-- a run in lent buffers that is not refused
pub record Passes (run : Buffers) : Type 0 where
  pub list : ValidList run.pages (length run.bytes)
  pub state : good_state run.state ≡ true
  pub whole : length run.words % 4 ≡ 0
  pub few : length run.words / 4 ≤ instruction_limit

-- a refusal is no pass
refusal_passes : (refusal : Refusal) → ◌≡◌ {A = Result (Unit {0}) Refusal} (Err refusal) (Ok tt) → ⊥
refusal_passes refusal e = let z : ◌≡◌ {A = ℕ} 0 1 = cc in omega arith

after_pages_lem : (listed : Result (Unit {0}) ListError) (rest : Result (Unit {0}) Refusal) → after_pages listed rest ≡ Ok tt → (listed ≡ Ok tt) × (rest ≡ Ok tt)
after_pages_lem (Ok x) rest e = (refl, e)
after_pages_lem (Err error) rest e = absurd (refusal_passes _ e)

after_state : (good uneven many : Bool) (first second : Refusal)
    → ◌≡◌ {A = Result (Unit {0}) Refusal} (cond good (cond (uneven || many) (Err second) (Ok tt)) (Err first)) (Ok tt)
    → (good ≡ true) × (uneven ≡ false) × (many ≡ false)
after_state true true many first second e = absurd (refusal_passes _ e)
after_state true false true first second e = absurd (refusal_passes _ e)
after_state true false false first second e = (refl, refl, refl)
after_state false uneven many first second e = absurd (refusal_passes _ e)

pub passes : (run : Buffers) → tested run ≡ Ok tt → Passes run
unfolding check_by bad_words
passes run e =
    let words : ℕ = length run.words in
    let parts = after_pages_lem (listing run.pages (length run.bytes)) _ e in
    let rest = after_state (good_state run.state) (not (eqb (words % 4) 0)) (ltb instruction_limit (words / 4)) _ _ parts.1 in
    record {
      list = valid_list run.pages (length run.bytes) parts.0;
      state = rest.0;
      whole = eqb-true (words % 4) 0 (not-false _ rest.1);
      few = ltb-false instruction_limit (words / 4) rest.2;
    }

pub passed : (run : Buffers) → Passes run → tested run ≡ Ok tt
unfolding check_by bad_words
passed run h =
    let words : ℕ = length run.words in
    rw (list_valid run.pages (length run.bytes) h.list, h.state, eq-eqb (words % 4) 0 h.whole, le-ltb instruction_limit (words / 4) h.few)

-- refusal 1 comes before all else
pub too_many : (run : Buffers) → page_limit < length run.pages → tested run ≡ Err Length
unfolding check_by
too_many run more = rw (too_many_entries run.pages (length run.bytes) more)
