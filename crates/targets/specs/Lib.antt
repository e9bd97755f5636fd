-- What calls and returns share, to be read beside docs/RULES.md, "The operations"; how to read it: processor/specs/Lib.antt.
pub mod Targets
