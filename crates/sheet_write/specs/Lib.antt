-- What a reader of the contract of `write` must believe, to be read beside crates/sheet/specs: `Writes`. The others serve private functions
-- only.
pub mod Writes
pub mod Order
pub mod Values
pub mod Laying
