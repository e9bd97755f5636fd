-- The laws of accesses for the memory, which opens this crate's definitions besides. Those above the memory find what they need among its laws.
--
-- By what trying an access finds:
--     load_done, load_failed, loaded_value, loaded_failure   what a load gives, and back
--     store_done, store_failed                               what a store leaves
-- Byte by byte:
--     scan_turn                        trying: this byte, then those after it
--     blocked_first, ready_next        one finding after the other
--     length_put                       no byte is added or lost
-- Where an address leads:
--     Found, found, behind             the entry behind each answer of `spot`
--     spot_inside, spot_page           its place is among the lent bytes, and its page is lent whole
--     page_start, page_length, whole     the page that a place lies on, as the code hands it on
-- Assumes nothing.

pub use Rattle.accesses.proofs.Answers.{load_done, load_failed, loaded_value, loaded_failure, store_done, store_failed}
pub use Rattle.accesses.proofs.Steps.{scan_turn, blocked_first, ready_next}
pub use Rattle.accesses.proofs.Parts.{page_start, page_length, whole, length_put}
pub use Rattle.accesses.proofs.Spots.{Found, found, behind, spot_inside, spot_page}
