-- The memory's contracts are stated by accesses/specs, by `against` of Blocked, and by `located`, `on_lent_page` and `store_at` of OnePage with the words
-- that they use. `one_page` and `further` state the claims of Promises; the rest of OnePage serves the contracts of private functions. Extends is for
-- claims on two memories.
-- To be read beside docs/RULES.md, "Reaching a byte". How to read it: pages/specs/Lib.antt.
pub mod Blocked
pub mod Extends
pub mod OnePage
pub mod Promises
