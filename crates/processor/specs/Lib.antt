-- What a reader of the processor's contracts must believe, to be read beside docs/RULES.md, in this order.
--
-- How to read it, beyond what pages/specs/Lib.antt says. A `do` block is a program of the access language (Prog), a step to a line:
-- `x ← p` runs p and names what it gives, a line without an arrow runs for its checks and stores; the last line is what is handed back.
-- `λ v.` is a function of v. An operation hands back `Ok` with the state after it, or `Err` with its fault. Its contract
-- `step_of (ended_by state result) (bytes at exit) ≡ operate (where addresses lead) (the program) state (bytes at entry)` says: answer,
-- registers and bytes are those that the program gives; after a fault registers and bytes are those from before it. In a definition by
-- cases a last line with a plain name, as `other`, is for every case that no line above names. `ghost try_from_gives` says of a conversion
-- that can fail what `from_gives` says of one that cannot. Of a struct that is handed over whole, `x.entry` is what it held.
pub mod Layout
pub mod State
pub mod Accesses
pub mod Prog
pub mod Outcomes
pub mod Bits
-- serves the contracts of the operations' private functions
pub mod Popped
