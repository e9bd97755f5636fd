-- Laws that belong to no one function. The crates above cite `Laws` alone; `promised` is the claims on one page, all of them.
pub mod Laws
pub mod Promised
mod Cells
mod Lookup
mod OnePage
mod OtherKinds
mod PageLists
mod PageParts
mod Stored
mod TwoMemories
mod Valid
