-- Near CALL, to be read beside docs/RULES.md, "The operations"; how to read it: processor/specs/Lib.antt.
pub mod Call
-- serves the contract of a private function
pub mod Frame
