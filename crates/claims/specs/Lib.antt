-- What is claimed of whole runs, over the definitions that the contracts of `step` and `run` cite (crates/replay/specs). Each claim is
-- a type; proofs/Lib.antt names its proof. Demands 1 and 3 hold for any instruction set of the access language, so codes added
-- later need no new argument; so do the numbers of refusals 1 to 4, and stepping while states stay in range. The ledger, the ranges, the
-- numbers of a fault, the call of the next instruction and the worked cases are about the codes that are built.
--
-- How to read a claim, beyond what pages/specs/Lib.antt and processor/specs/Lib.antt say. `(x : A) → B` is B for every x, `A → B` B if A,
-- `A → ⊥` not A, `A × B` both, `(x : A) × B` B for some x. `++` joins lists, `map f` applies f to each element.
pub mod Ends
pub mod MorePages
pub mod MoreRights
pub mod ListOrder
pub mod Ledger
pub mod Ranges
pub mod Faults
pub mod CallOfNext
pub mod StepByStep
pub mod RefusalNumbers
pub mod Promises
