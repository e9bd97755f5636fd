-- Instructions, to be read beside docs/RULES.md, "Instructions", in this order.
pub mod Operation
pub mod Instruction
pub mod Permission
