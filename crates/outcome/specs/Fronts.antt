-- A text in two buffers: the fronts of both, one behind the other. Assumes nothing.
use Rattle.std.specs.Prelude.{ℕ, ◌≤◌, ◌≡◌, List, ◌++◌, length, take}
use Rattle.outcome.specs.declared.Fronts.{Fronts}

-- so many bytes of a line and of a sheet are this text
pub record Holds (whole line sheet : List ℕ) (fronts : Fronts) : Type 0 where
  pub in_line : fronts.line ≤ length line
  pub in_sheet : fronts.sheet ≤ length sheet
  pub whole_is : take fronts.line line ++ take fronts.sheet sheet ≡ whole
