-- What a reader of the contract of `read` must believe, to be read beside crates/sheet/specs: `Reads`. Scan serves private functions only.
pub mod Reads
pub mod Scan
