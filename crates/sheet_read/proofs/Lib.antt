-- Laws of counted lines and of what is read from them, for the proofs of this crate's functions. The crates above cite `Rooms`.
pub mod Rooms
mod Leads
mod Rows
mod Stages
mod Pages
mod Fills
mod Bodies
mod Saved
