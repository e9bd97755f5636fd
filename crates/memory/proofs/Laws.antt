-- The laws of the memory for the crates above, which open none of its definitions, but to compute worked rows. Those of addresses and
-- page lists alone stand in the crates below (proofs/Laws.antt of crates/addresses and crates/pages).
--
-- By what trying an access finds:
--     load_done, load_failed, loaded_value, loaded_failure   what a load gives, and back
--     store_done, store_failed                               what a store leaves
-- By where an access lies:
--     told                                                   what trying it finds
--     placed_written                                         bytes stored at its place are what it leaves
-- What a store leaves:
--     value_written                                          a load of it gives the value's low bytes back
--     written_elsewhere                                      every other address holds what it held
--     length_written, length_stored                          no byte is added or lost
-- Where addresses lead:
--     lookup_places                                          to places among the lent bytes, no two to one place
--     lookup_kept                                            where they led before, while no byte is added or lost
--     first_byte_decides                                     on one page, the first byte's page, kind and place decide those of every byte
--     one_page_exactly                                       `one_page`, by which that is stated, holds wherever all bytes lie on the first one's page
-- Pages of other kinds than an access's:
--     same_kind_probe                                        what trying it finds depends only on which addresses are listed and which are of its kind
--     written_on_kind                                        a store leaves them alone
-- Two memories side by side, over any two lookups:
--     ready_in_second, same_value, same_load                 an access done in the first is done in the second, with the same value
--     store_in_both                                          a store keeps the relation
--     not_canonical_lem                                          a failure to be canonical does not depend on the pages
--     alike_probe, alike_load                                memories that hold the same answer alike, failures included
-- Two page lists:
--     pages_extend                                           the relation, from a list that holds every page of another
--     extends_pages                                          and back: the old pages are alike, the added ones untouched
--     order_free                                             two valid lists of the same pages hold the same at every address
-- Assumes nothing.

pub use Rattle.accesses.proofs.Laws.{load_done, load_failed, loaded_value, loaded_failure, store_done, store_failed}
pub use Rattle.memory.proofs.Stored.{value_written, written_elsewhere}
pub use Rattle.memory.proofs.TwoMemories.{length_written, length_stored}
pub use Rattle.memory.proofs.Lookup.{lookup_places, lookup_kept}
pub use Rattle.memory.proofs.OnePage.{first_byte_decides, one_page_exactly, told, placed_written}
pub use Rattle.memory.proofs.OtherKinds.{same_kind_probe, written_on_kind}
pub use Rattle.memory.proofs.TwoMemories.{ready_in_second, same_value, same_load, store_in_both, not_canonical_lem, alike_probe, alike_load}
pub use Rattle.memory.proofs.PageLists.{pages_extend, extends_pages, order_free}
