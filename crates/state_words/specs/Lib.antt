-- What a reader of these contracts must believe, to be read beside crates/processor/specs.
pub mod Formed
