-- Laws that belong to no one function. The crates above the memory cite `Laws` alone; the memory itself also cites Steps.
pub mod Laws
pub mod Steps
mod Lists
