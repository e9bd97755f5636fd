-- Where the stores of a list lie, as the code notes it, for the contracts of private functions. Assumes nothing.
use Rattle.std.specs.Prelude.{ℕ, Option, Result, Ok, Err, List, [], ◌∷◌}
use Rattle.pages.specs.Pages.{Lookup}
use Rattle.memory.specs.OnePage.{located}
use Rattle.memory.specs.Blocked.{against}
use Rattle.memory.specs.declared.blocked.Blocked.{Blocked}
use Rattle.stores.specs.declared.Store.{Store}

-- a place, and those after it, unless one of them cannot be told
abbrev pub and_place : Result (Option ℕ) Blocked → Result (List (Option ℕ)) Blocked → Result (List (Option ℕ)) Blocked
and_place (Ok place) (Ok places) = Ok (place ∷ places)
and_place (Ok place) (Err blocked) = Err blocked
and_place (Err blocked) places = Err blocked

-- where each store of a list lies, if all can be done, else the first that cannot
unfoldable pub located_all : Lookup → List Store → Result (List (Option ℕ)) Blocked
located_all look [] = Ok []
located_all look (s ∷ rest) = and_place (against s.access (located look s.access)) (located_all look rest)
