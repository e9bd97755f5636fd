-- The laws of numbers as bytes and of pieces laid into a buffer, for the crates above. The memory also opens `number_at` and `put_at`, to walk
-- them byte by byte.
--
--     at_least_four, at_most_eight     how many bytes a number has
--     number_drop, number_below        the number at a place, and how large it can be
--     room_left, lies_inside, ends_inside     when a piece lies within a list
--     held_number, held_there          of a number that does, what a load gives
--     put_inside                       and what a store leaves
--     little_length, put_laid          a number's bytes as a piece
--     laid_if_lem, laid_unless             a piece that has room, or has not
--     length_laid, laid_nil, laid_turn, laid_front, laid_whole     pieces, one behind the other
--     set_laid, laid_start, laid_end, laid_cons, laid_element, laid_last     and element by element
-- Assumes nothing.

pub use Rattle.numbers.proofs.Bytes.{at_least_four, at_most_eight, number_drop, number_below, little_length}
pub use Rattle.numbers.proofs.Bytes.{room_left, lies_inside, ends_inside, held_number, held_there, put_inside}
pub use Rattle.numbers.proofs.BufferLaws.{length_laid, laid_nil, laid_turn, laid_if_lem, laid_unless, laid_front, laid_whole, put_laid}
pub use Rattle.numbers.proofs.BufferLaws.{set_laid, laid_start, laid_end, laid_cons, laid_element, laid_last}
