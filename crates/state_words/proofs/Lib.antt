-- Laws on words as a state, for the crates above.
pub mod Laws
