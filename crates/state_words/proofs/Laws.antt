-- What words make, by how many they are, and back. Assumes nothing.
use Prim.Native.Nat.{ℕ}
use mathlib.Core.Path.{◌≡◌, refl, sym}
use mathlib.Core.Bool.{Bool, true, false, true≢false}
use mathlib.Core.List.{List}
use native.Mathlib.Omega.{arith}
use lib.ListN.{length}
use lib.Dec.{eqb}
use borrow.Author.Tests.{eq-eqb, eqb-true}
use Rattle.processor.specs.State.{in_range}
use Rattle.processor.specs.Layout.{fields, state_of}
use Rattle.state_words.specs.Formed.{formed, good_state}
use Rattle.processor.specs.declared.state.State.{State}
use Rattle.std.specs.Prelude.{Some, None}

module _ (words : List ℕ) where
  pub formed_whole : (s : State) → formed words ≡ Some s → (length words ≡ fields) × (s ≡ state_of words)
  unfolding formed
  formed_whole s e = go (eqb (length words) fields) refl
    where
      go : (b : Bool) → eqb (length words) fields ≡ b → (length words ≡ fields) × (s ≡ state_of words)
      go true h = let same = rw h at e in (eqb-true (length words) fields h, cc)
      go false h = let other = rw h at e in let z : ◌≡◌ {A = ℕ} 0 1 = cc in absurd (omega arith)

  pub good_none : formed words ≡ None → good_state words ≡ false
  unfolding good_state
  good_none e = rw e

  pub good_whole : length words ≡ fields → good_state words ≡ in_range (state_of words)
  unfolding good_state formed
  good_whole long = rw (eq-eqb (length words) fields long)

  -- a good state has all its fields, each in its range
  pub good_fields : good_state words ≡ true → length words ≡ fields
  unfolding good_state formed
  good_fields e = go (eqb (length words) fields) refl
    where
      go : (b : Bool) → eqb (length words) fields ≡ b → length words ≡ fields
      go true h = eqb-true (length words) fields h
      go false h = absurd (true≢false (sym (rw h at e)))
