-- What crosses the C interface (include/driftpocket.h), to be read beside crates/replay/specs.
pub mod Crossing
