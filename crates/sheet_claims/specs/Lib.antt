-- What is claimed of run sheets, to be read beside docs/RULES.md, "Run sheets". The claims speak of the definitions in the specs/ of `texts`,
-- `sheet`, `sheet_read` and `sheet_write`, of Pages (crates/pages), Extends (crates/memory), and the tests before a run (Run, crates/replay).
--
-- How to read a claim, besides what pages/specs/Lib.antt says: `(x : A) →` is "for every x", `P → Q` "if P then Q", `(x : A) × P` "there is an x
-- with P", `P × Q` "both", `→ ⊥` "cannot be", `Unit` "always holds".
pub mod Numerals
pub mod Worked
pub mod RoundTrips
pub mod FirstBadLine
pub mod EqualMeaning
pub mod LentBuffers
pub mod Promises
