-- Laws that belong to no one function. The crates above cite `Sizes`.
pub mod Sizes
mod Ascending
mod Apart
mod Turns
mod ValueLaws
mod Lays
mod Rests
mod Texts
mod Answers
