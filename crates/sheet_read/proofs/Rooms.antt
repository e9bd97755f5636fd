-- What fits, part by part. Assumes nothing.
use Prim.Native.Nat.{◌≤◌}
use mathlib.Core.Path.{◌≡◌}
use mathlib.Core.Bool.{true}
use lib.Dec.{leb}
use borrow.Author.Tests.{leb-true}
use Rattle.texts.proofs.DigitLaws.{both}
use Rattle.sheet_read.specs.Reads.{within}
use Rattle.sheet_read.specs.declared.buffers.Sizes.{Sizes}

pub within_parts : (sizes room : Sizes) → within sizes room ≡ true → (sizes.pages ≤ room.pages) × (sizes.bytes ≤ room.bytes) × (sizes.words ≤ room.words)
within_parts sizes room h =
    let first = both (leb sizes.pages room.pages) _ h in
    let second = both (leb sizes.bytes room.bytes) _ first.1 in
    (leb-true _ _ first.0, leb-true _ _ second.0, leb-true _ _ second.1)
