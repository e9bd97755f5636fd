-- Laws that belong to no one function. The crates above the memory cite `Laws` alone; accesses and memory also cite Sums.
pub mod Laws
pub mod Sums
mod Moves
