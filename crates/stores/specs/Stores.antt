-- The stores of one operation, as a list (docs/RULES.md, "Reaching a byte"): the first that cannot be done decides, and then none is made. Assumes nothing.
use Rattle.std.specs.Prelude.{ℕ, Result, Ok, Err, List, [], ◌∷◌}
use Rattle.pages.specs.Pages.{Lookup}
use Rattle.accesses.specs.Access.{probe, written}
use Rattle.memory.specs.Blocked.{against}
use Rattle.memory.specs.declared.blocked.Blocked.{Blocked}
use Rattle.stores.specs.declared.Store.{Store}

-- a store that can be done leaves it to those after it
abbrev pub then_try : Result (Unit {0}) Blocked → Result (Unit {0}) Blocked → Result (Unit {0}) Blocked
then_try (Ok x) next = next
then_try (Err blocked) next = Err blocked

-- what trying the stores in their order finds
unfoldable pub try_all : Lookup → List Store → Result (Unit {0}) Blocked
try_all look [] = Ok tt
try_all look (s ∷ rest) = then_try (against s.access (probe look s.access)) (try_all look rest)

-- the bytes that the stores leave once they are made, one after the other
unfoldable pub written_all : Lookup → List Store → List ℕ → List ℕ
written_all look [] bytes = bytes
written_all look (s ∷ rest) bytes = written_all look rest (written look s.access s.value bytes)

-- all of them, or none
abbrev pub left_by : Result (Unit {0}) Blocked → List ℕ → List ℕ → List ℕ
left_by (Ok x) after before = after
left_by (Err blocked) after before = before
