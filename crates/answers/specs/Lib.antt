-- Answers, faults and their numbers, to be read beside docs/RULES.md, "Refusals and answers"; how to read it: pages/specs/Lib.antt.
pub mod Answer
pub mod Blame
