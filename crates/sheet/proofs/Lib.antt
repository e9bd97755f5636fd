-- Laws on the lines of a sheet, for the crates above: LineLaws on lines and on a text's lines, TestedLaws on the tests before a run.
pub mod LineLaws
pub mod TestedLaws
mod Turns
