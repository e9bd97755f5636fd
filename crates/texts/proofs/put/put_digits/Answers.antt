-- `put_digits` meets its contract. The invariant: the digits that are left, laid before those that are in place, give the whole. Assumes nothing.
use Rattle.std.proofs.Common.{◌≡◌, ℕ, ◌+◌, ◌-◌, ◌<◌, length, sym, ◌∙◌, arith}
use Rattle.texts.proofs.Turns.{hex_end, hex_turn}
use Rattle.texts.proofs.put.put_digits.Goals as goal

pub loop-place-preserved : goal.loop-place-preserved
loop-place-preserved c =
    let args = c.args in
    let place : ℕ = c.loop-place.place - 1 in
    let one : place + 1 ≡ c.loop-place.place = omega arith in
    let room : args.at + place < length c.loop-place.text = omega arith in
    c.loop-place.invariant ∙ rw c.digit.ensures (rw one at (hex_turn c.loop-place.text args.at place c.loop-place.rest room))

pub returns : goal.returns
returns c = sym (c.loop-place.invariant ∙ hex_end _ _ _ _ c.loop-place-test.false)
