-- The worked cases, computed.
pub mod WorkedProof
