-- The laws of page lists for the crates above. Above the memory none opens a definition of this crate, but to compute worked rows.
--
-- Where a page lies:
--     page_and_offset                      an address is its page's address and the offset there
--     page_end                             a page of 64-bit addresses ends at 2^64 or before
-- Page lists:
--     none_passes, each_fails              no entry passes a test (`list_any`), exactly where none passes at any place (`EachFails`)
--     once_apart, apart_once               no page address stands twice (`repeated`), exactly where entries of one page are one entry (`Apart`)
--     valid_list, list_valid               a list is valid (`listing`) exactly where it breaks none of the four rules (`ValidList`)
--     neither                              neither of two tests passes
--     too_many_entries                     refusal 1 comes before all else
-- Assumes nothing.

pub use Rattle.pages.proofs.Lists.{neither, page_and_offset, page_end, EachFails, none_passes, each_fails, Apart, once_apart, apart_once, ValidList, valid_list, list_valid, too_many_entries}
