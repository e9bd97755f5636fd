-- `number` meets its contract. The invariant: the characters that are left, behind those that were read, give the whole number.
-- Assumes nothing.
use Rattle.std.proofs.Common.{rules, ◌+◌, ◌*◌, ◌^◌, ◌<◌, ◌≤◌, length, sym, ◌∙◌, arith}
use Rattle.numbers.proofs.Laws.{ends_inside}
use Rattle.texts.proofs.DigitLaws.{digit_below}
use Rattle.texts.proofs.Turns.{no_room, read_length, digits_start, digits_turn, digits_end, value_room, value_grows}
use Rattle.texts.proofs.digits.number.Goals.{Else-not-has_room, After-is_digit-good, After-digit_value}
use Rattle.texts.proofs.digits.number.Goals as goal

room : (c : Else-not-has_room) → let args = c.args in args.at + 17 ≤ length args.text.now
room c = ends_inside _ _ _ (sym c.has_room.ensures ∙ c.if-not-has_room.false)

small : (c : After-digit_value) → c.digit_value.result < 16
small c = rw c.digit_value.ensures (digit_below _)

-- one digit more fits
fits : (c : After-is_digit-good) → c.loop-c.v * 16 + 15 < 2 ^ 64
fits c =
    let args = c.args in
    let sixteen = read_length args.text.now args.at (room (goal.at.overflow_mul-v c).Else-not-has_room) in
    value_room c.loop-c.v c.loop-c.c-index c.loop-c.invariant.1 (omega arith)

pub returns-then-not-has_room : goal.returns-then-not-has_room
returns-then-not-has_room c =
    let args = c.args in
    sym (no_room args.text.now args.at (sym c.has_room.ensures ∙ c.if-not-has_room.true))

pub bounds-text-at : goal.bounds-text-at
bounds-text-at c = omega (arith, room (goal.at.bounds-text-at c).Else-not-has_room)

pub overflow_add-c-items : goal.overflow_add-c-items
overflow_add-c-items c = omega (arith, room (goal.at.overflow_add-c-items c).Else-not-has_room)

pub overflow_add-c-items-2 : goal.overflow_add-c-items-2
overflow_add-c-items-2 c = omega (arith, room (goal.at.overflow_add-c-items-2 c).Else-not-has_room)

pub overflow_add-c-items-3 : goal.overflow_add-c-items-3
overflow_add-c-items-3 c = omega (arith, room (goal.at.overflow_add-c-items-3 c).Else-not-has_room)

pub slice_bounds-c-items-end : goal.slice_bounds-c-items-end
slice_bounds-c-items-end c = let all = room (goal.at.slice_bounds-c-items-end c).Else-not-has_room in search rules

pub loop-c-init : goal.loop-c-init
loop-c-init c = (digits_start _ _ (room (goal.at.loop-c-init c).Else-not-has_room), omega arith)

pub overflow_mul-v : goal.overflow_mul-v
overflow_mul-v c = omega (arith, fits c)

pub overflow_add-v : goal.overflow_add-v
overflow_add-v c = omega (arith, small c, fits (goal.at.overflow_add-v c).After-is_digit-good)

pub loop-c-preserved : goal.loop-c-preserved
loop-c-preserved c = (
  c.loop-c.invariant.0 ∙ rw (c.is_digit-good.ensures, c.digit_value.ensures) (digits_turn _ _ _ _ c.loop-c-test.true),
  value_grows _ _ _ c.loop-c.invariant.1 (small (goal.at.loop-c-preserved c).After-digit_value),
)

pub returns : goal.returns
returns c = c.then_some.ensures ∙ sym (c.loop-c.invariant.0 ∙ digits_end _ _ _ _ c.loop-c-test.false)
