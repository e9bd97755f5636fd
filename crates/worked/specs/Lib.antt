-- The worked cases: rows of data, and one claim over each set of them.
pub mod Worked
pub mod WorkedReturns
