-- A line at the front of its buffer. Assumes nothing.
use Rattle.std.proofs.Common.{◌≡◌, ℕ, ◌+◌, ◌*◌, ◌≤◌, List, length, take, ◌∙◌, arith}
use Rattle.numbers.specs.Buffers.{laid_if}
use Rattle.numbers.proofs.Laws.{laid_if_lem, laid_front, length_laid}
use Rattle.texts.specs.Fields.{line_of}
use Rattle.texts.proofs.Fields.{line_long}

pub line_front : (name values start line : List ℕ) (n : ℕ) → n ≡ length name + 18 * length values + 1 → n ≤ length start
    → line ≡ laid_if start 0 (line_of name values) → (n ≤ length line) × (take n line ≡ line_of name values)
line_front name values start line n wide room put =
    let long = line_long name values in
    let now = put ∙ laid_if_lem start 0 (line_of name values) (omega arith) in (
      rw (now, length_laid start 0 (line_of name values) (omega arith)) room,
      rw now (laid_front start (line_of name values) n (omega arith)),
    )
