-- Laws of one instruction.
pub mod ExecLaws
