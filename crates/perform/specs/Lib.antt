-- One instruction, of any instruction set and of the one that is built. How to read it: pages/specs/Lib.antt and
-- processor/specs/Lib.antt.
pub mod Exec
pub mod Codes
