-- The loops over the stores of a list: where each lies, whether it can be done, and what they leave. Assumes nothing.
use Rattle.std.proofs.Common.{ℕ, zero, suc, ◌+◌, ◌<◌, ◌≤◌, ◌≡◌, refl, false, List, [], ◌∷◌, length, get_or, drop, Option, Some, None, Result, Ok, Err, arith, add-one, drop-cons, drop_of_length-le}
use Rattle.addresses.specs.declared.address.Width.TheVariants.{Bits32}
use Rattle.numbers.specs.declared.size.Size.TheVariants.{Four}
use Rattle.pages.specs.Pages.{Lookup}
use Rattle.accesses.specs.Access.{probe, written}
use Rattle.accesses.specs.declared.access.Access.{Access}
use Rattle.accesses.specs.declared.access.Kind.TheVariants.{UserShadow}
use Rattle.accesses.specs.declared.reach.Failure.{Failure}
use Rattle.memory.specs.OnePage.{located}
use Rattle.memory.specs.Blocked.{against}
use Rattle.memory.specs.declared.blocked.Blocked.{Blocked}
use Rattle.memory.proofs.Laws.{told}
use Rattle.stores.specs.Stores.{then_try, try_all, written_all}
use Rattle.stores.specs.Places.{and_place, located_all}
use Rattle.stores.specs.declared.Store.{Store}

-- stands past the end of a list of stores
abbrev pub no_store : Store
no_store = record { access = record { first = 0; kind = UserShadow; store = false; user = false; size = Four; width = Bits32; canonical = false }; value = 0 }

-- ---- where the stores lie

-- where a store lies, if it can be done
abbrev place_of : Lookup → Store → Result (Option ℕ) Blocked
place_of look s = against s.access (located look s.access)

-- each store of the first k lies where it was noted
pub record Noted (look : Lookup) (stores : List Store) (places : List (Option ℕ)) (k : ℕ) : Type 0 where
  pub room : length places ≡ length stores
  pub each : (i : ℕ) → i < k → place_of look (get_or stores i no_store) ≡ Ok (get_or places i None)

-- those after the first
rest_noted : {look : Lookup} {k : ℕ} {s : Store} {rest : List Store} {place : Option ℕ} {places : List (Option ℕ)} → Noted look (s ∷ rest) (place ∷ places) (suc k) → Noted look rest places k
rest_noted noted = record { room = omega (arith, noted.room); each = λ i before. noted.each (suc i) (omega arith) }

-- all were noted
pub all_noted : (look : Lookup) (stores : List Store) (places : List (Option ℕ)) (k : ℕ) → length stores ≤ k → Noted look stores places k → Ok places ≡ located_all look stores
unfolding located_all
all_noted look [] [] k all noted = refl
all_noted look [] (place ∷ places) k all noted = absurd (omega (arith, noted.room))
all_noted look (s ∷ rest) [] k all noted = absurd (omega (arith, noted.room))
all_noted look (s ∷ rest) (place ∷ places) zero all noted = absurd (omega arith)
all_noted look (s ∷ rest) (place ∷ places) (suc k) all noted = rw (noted.each 0 (omega arith), ← all_noted look rest places k (omega arith) (rest_noted noted))

-- one cannot be done, and all before it were noted
pub stopped : (look : Lookup) (stores : List Store) (places : List (Option ℕ)) (k : ℕ) (blocked : Blocked) → k < length stores → Noted look stores places k
    → place_of look (get_or stores k no_store) ≡ Err blocked → Err blocked ≡ located_all look stores
unfolding located_all
stopped look [] places k blocked among noted here = absurd (omega arith)
stopped look (s ∷ rest) [] k blocked among noted here = absurd (omega (arith, noted.room))
stopped look (s ∷ rest) (place ∷ places) zero blocked among noted here = rw here
stopped look (s ∷ rest) (place ∷ places) (suc k) blocked among noted here =
    rw (noted.each 0 (omega arith), ← stopped look rest places k blocked (omega arith) (rest_noted noted) here)

-- ---- what the places tell

-- whether stores can be done, by where they lie
abbrev pub forget : {A : Type 0} → Result A Blocked → Result (Unit {0}) Blocked
forget (Ok found) = Ok tt
forget (Err blocked) = Err blocked

tried_one : (look : Lookup) (a : Access) → against a (probe look a) ≡ forget (against a (located look a))
tried_one look a = go (located look a) refl
  where
    go : (found : Result (Option ℕ) Failure) → found ≡ located look a → against a (probe look a) ≡ forget (against a found)
    go (Ok (Some place)) e = rw (told look a (Ok (Some place)) e).ready
    go (Ok None) e = rw (told look a (Ok None) e)
    go (Err failure) e = rw (told look a (Err failure) e)

pub tried : (look : Lookup) (stores : List Store) → try_all look stores ≡ forget (located_all look stores)
unfolding try_all located_all
tried look [] = refl
tried look (s ∷ rest) = rw (tried_one look s.access, tried look rest) (go (place_of look s) (located_all look rest))
  where
    go : (here : Result (Option ℕ) Blocked) (there : Result (List (Option ℕ)) Blocked) → then_try (forget here) (forget there) ≡ forget (and_place here there)
    go (Ok place) (Ok places) = refl
    go (Ok place) (Err blocked) = refl
    go (Err blocked) there = refl

-- the first store's place, and those of the rest
record Headed (here : Result (Option ℕ) Blocked) (there : Result (List (Option ℕ)) Blocked) (places : List (Option ℕ)) : Type 0 where
  place : Option ℕ
  after : List (Option ℕ)
  here_is : here ≡ Ok place
  there_is : there ≡ Ok after
  places_are : places ≡ place ∷ after

headed : (here : Result (Option ℕ) Blocked) (there : Result (List (Option ℕ)) Blocked) (places : List (Option ℕ)) → and_place here there ≡ Ok places → Headed here there places
headed (Ok place) (Ok after) places e = record { place = place; after = after; here_is = refl; there_is = refl; places_are = cc }
headed (Ok place) (Err blocked) places e = let z : ◌≡◌ {A = ℕ} 0 1 = cc in absurd (omega arith)
headed (Err blocked) there places e = let z : ◌≡◌ {A = ℕ} 0 1 = cc in absurd (omega arith)

-- what was found of an access that can be done
can_be_done : {A : Type 0} (a : Access) (found : Result A Failure) (place : A) → against a found ≡ Ok place → found ≡ Ok place
can_be_done a (Ok found) place e = cc
can_be_done a (Err failure) place e = let z : ◌≡◌ {A = ℕ} 0 1 = cc in absurd (omega arith)

-- where the k-th store lies
pub its_place : (look : Lookup) (stores : List Store) (places : List (Option ℕ)) (k : ℕ) → k < length stores → located_all look stores ≡ Ok places
    → located look (get_or stores k no_store).access ≡ Ok (get_or places k None)
unfolding located_all
its_place look [] places k among e = absurd (omega arith)
its_place look (s ∷ rest) places zero among e = let h = headed _ _ places e in rw h.places_are (can_be_done s.access (located look s.access) h.place h.here_is)
its_place look (s ∷ rest) places (suc k) among e = let h = headed _ _ places e in rw h.places_are (its_place look rest h.after k (omega arith) h.there_is)

-- ---- a list that is only tried

-- those from the k-th on
pub try_from : (look : Lookup) (stores : List Store) (k : ℕ) → k < length stores
    → try_all look (drop k stores) ≡ then_try (forget (place_of look (get_or stores k no_store))) (try_all look (drop (k + 1) stores))
unfolding try_all
try_from look stores k among = rw (drop-cons stores k no_store among, add-one k, tried_one look (get_or stores k no_store).access)

-- past the last
pub try_none : (look : Lookup) (stores : List Store) (k : ℕ) → length stores ≤ k → try_all look (drop k stores) ≡ Ok tt
unfolding try_all
try_none look stores k past = rw (drop_of_length-le stores past)

both_done : (here there : Result (Unit {0}) Blocked) → then_try here there ≡ Ok tt → (here ≡ Ok tt) × (there ≡ Ok tt)
both_done (Ok x) there e = (refl, e)
both_done (Err blocked) there e = let z : ◌≡◌ {A = ℕ} 0 1 = cc in absurd (omega arith)

-- where all can be done, the k-th can
pub each_done : (look : Lookup) (stores : List Store) (k : ℕ) → k < length stores → try_all look stores ≡ Ok tt
    → probe look (get_or stores k no_store).access ≡ Ok tt
unfolding try_all
each_done look [] k among e = absurd (omega arith)
each_done look (s ∷ rest) zero among e = can_be_done s.access (probe look s.access) tt (both_done (against s.access (probe look s.access)) (try_all look rest) e).0
each_done look (s ∷ rest) (suc k) among e = each_done look rest k (omega arith) (both_done (against s.access (probe look s.access)) (try_all look rest) e).1

-- ---- what the stores leave

-- those from the k-th on
pub write_from : (look : Lookup) (stores : List Store) (k : ℕ) (bytes : List ℕ) → k < length stores
    → written_all look (drop k stores) bytes ≡ written_all look (drop (k + 1) stores) (written look (get_or stores k no_store).access (get_or stores k no_store).value bytes)
unfolding written_all
write_from look stores k bytes among = rw (drop-cons stores k no_store among, add-one k)

-- past the last
pub write_none : (look : Lookup) (stores : List Store) (k : ℕ) (bytes : List ℕ) → length stores ≤ k → written_all look (drop k stores) bytes ≡ bytes
unfolding written_all
write_none look stores k bytes past = rw (drop_of_length-le stores past)
