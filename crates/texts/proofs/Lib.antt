-- Laws on numbers in a text, for the crates above: DigitLaws on numbers, Fields on fields and lines of any name, FormLaws on forms and on a
-- text's lines.
pub mod DigitLaws
pub mod Fields
pub mod FormLaws
mod Turns
