-- The descriptor table, to be read beside docs/RULES.md, "The descriptor table"; how to read it: pages/specs/Lib.antt.
pub mod Descriptors
