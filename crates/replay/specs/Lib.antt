-- What a reader of the contracts of `step` and `run` must believe, to be read beside docs/RULES.md, "Refusals and answers". How to read it:
-- pages/specs/Lib.antt and processor/specs/Lib.antt.
pub mod Run
