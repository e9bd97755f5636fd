-- What a reader of the sheet's contracts must believe, to be read beside docs/RULES.md, "Run sheets", in this order. Reading is pinned to
-- `text` by theorems (crates/sheet_claims). How to read it: pages/specs/Lib.antt and processor/specs/Lib.antt; besides, `++` joins two lists,
-- `[]` is the empty one, `length` counts, `replicate n x` is n times x.
pub mod Lines
pub mod Lent
pub mod Sheets
pub mod Reading
