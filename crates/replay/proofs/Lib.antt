-- Laws of a run.

mod RunLaws
