-- What a reader of this crate's contracts must believe. How to read it: pages/specs/Lib.antt; besides, `++` joins two lists.
pub mod Numbers
pub mod Buffers
