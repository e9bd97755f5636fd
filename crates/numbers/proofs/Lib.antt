-- Laws that belong to no one function. The crates above cite `Laws` alone.
pub mod Laws
mod Bytes
mod BufferLaws
