-- What a reader of this crate's contracts must believe, to be read beside docs/RULES.md, "Run sheets", after pages/specs. How to read it:
-- pages/specs/Lib.antt.
pub mod Order
