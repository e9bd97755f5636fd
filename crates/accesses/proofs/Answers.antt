-- What trying an access decides. Assumes nothing.
use Rattle.std.proofs.Common.{◌≡◌, ℕ, refl, ap, List, Result, Ok, Err, arith}
use Rattle.pages.specs.Pages.{Lookup}
use Rattle.accesses.specs.Access.{probe, value, loaded_if, load, written, store}
use Rattle.accesses.specs.declared.access.Access.{Access}
use Rattle.accesses.specs.declared.reach.Failure.{Failure}

-- ---- what a load and a store give, by what trying finds

module _ (look : Lookup) (bytes : List ℕ) (a : Access) where
  pub load_done : probe look a ≡ Ok tt → load look bytes a ≡ Ok (value look bytes a)
  unfolding load
  load_done e = rw e

  pub load_failed : (failure : Failure) → probe look a ≡ Err failure → load look bytes a ≡ Err failure
  unfolding load
  load_failed failure e = rw e

  -- and back
  pub loaded_value : (v : ℕ) → load look bytes a ≡ Ok v → (probe look a ≡ Ok tt) × (value look bytes a ≡ v)
  unfolding load
  loaded_value v e = go (probe look a) e
    where
      go : (r : Result (Unit {0}) Failure) → loaded_if r (value look bytes a) ≡ Ok v → (r ≡ Ok tt) × (value look bytes a ≡ v)
      go (Ok x) q = (refl, cc)
      go (Err failure) q = let z : ◌≡◌ {A = ℕ} 0 1 = cc in absurd (omega arith)

  pub loaded_failure : (failure : Failure) → load look bytes a ≡ Err failure → probe look a ≡ Err failure
  unfolding load
  loaded_failure failure e = go (probe look a) e
    where
      go : (r : Result (Unit {0}) Failure) → loaded_if r (value look bytes a) ≡ Err failure → r ≡ Err failure
      go (Ok x) q = let z : ◌≡◌ {A = ℕ} 0 1 = cc in absurd (omega arith)
      go (Err other) q = ap Err cc

  pub store_done : (v : ℕ) → probe look a ≡ Ok tt → store look a v bytes ≡ written look a v bytes
  unfolding store
  store_done v e = rw e

  pub store_failed : (failure : Failure) (v : ℕ) → probe look a ≡ Err failure → store look a v bytes ≡ bytes
  unfolding store
  store_failed failure v e = rw e
