-- What a reader of the contracts of numbers in a text must believe, to be read beside docs/RULES.md, "Run sheets", in this order. How to read
-- it: pages/specs/Lib.antt; besides, `++` joins two lists, `[]` is the empty one, `replicate n x` is n times x.
pub mod Digits
pub mod Fields
