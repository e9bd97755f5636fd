-- `number` meets its contract. What the bytes from the k-th on hold is small enough for one more byte. Assumes nothing.
use Rattle.std.proofs.Common.{ℕ, ◌-◌, ◌^◌, ◌<◌, arith}
use Rattle.accesses.proofs.Numbers.{room, built_more}
use Rattle.numbers.proofs.Laws.{at_most_eight}
use Rattle.accesses.proofs.load.number.Goals.{In-loop-k}
use Rattle.accesses.proofs.load.number.Goals as goal

small : (c : In-loop-k) → c.loop-k.value < 2 ^ 56
small c =
    let n : ℕ = c.bytes-k.result in
    let most = at_most_eight c.args.size in
    room c.loop-k.value (n - c.loop-k.k) (rw c.bytes-k.ensures (omega arith)) c.loop-k.invariant.below

pub overflow_mul-value : goal.overflow_mul-value
overflow_mul-value c = omega (arith, small (goal.at.overflow_mul-value c).In-loop-k)

pub overflow_add-value : goal.overflow_add-value
overflow_add-value c = omega (arith, small (goal.at.overflow_add-value c).In-loop-k, c.byte_at-byte.type_inv)

pub loop-k-preserved : goal.loop-k-preserved
loop-k-preserved c =
    built_more _ _ _ _ _ _ _ _ c.loop-k-test.true c.loop-k.invariant (omega (arith, c.byte_at-byte.type_inv)) (rw (← c.plus.ensures) c.byte_at-byte.ensures)
