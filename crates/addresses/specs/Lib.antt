-- What a reader of this crate's contracts must believe, to be read beside docs/RULES.md, "Reaching a byte". How to read it: pages/specs/Lib.antt.
pub mod Address
