-- The laws of addresses for the crates above. Above the memory none opens a definition of this crate, but to compute worked rows.
--
-- Sums of addresses:
--     plus_below, minus_below              lie within the width
--     plus_aligned, minus_aligned          of multiples of 4 are multiples of 4
--     plus_back, plus_twice, minus_back    what an address has moved by
--     moves_add                            two moves, one after the other
-- Assumes nothing.

pub use Rattle.addresses.proofs.Moves.{plus_below, minus_below, plus_aligned, minus_aligned, plus_back, plus_twice, minus_back, moves_add}
