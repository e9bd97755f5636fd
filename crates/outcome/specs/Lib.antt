-- What the program writes for a text, to be read beside docs/RULES.md, "The outcome of a sheet", and crates/sheet/specs.
pub mod Outcome
-- serves private functions
pub mod Fronts
