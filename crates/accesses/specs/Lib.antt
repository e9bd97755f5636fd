-- What a reader of accesses' contracts must believe, to be read beside docs/RULES.md, "Reaching a byte", after addresses/specs, pages/specs and
-- numbers/specs. How to read it: pages/specs/Lib.antt.
pub mod Access
