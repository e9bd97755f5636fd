-- What crosses the C interface of sheets, to be read beside crates/sheet_read/specs and crates/sheet_write/specs.
pub mod Crossing
