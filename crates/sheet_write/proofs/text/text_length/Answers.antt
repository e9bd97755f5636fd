-- `text_length` meets its contract. Assumes nothing.
use native.Mathlib.Omega.{arith}
use Rattle.sheet_write.specs.Laying.{text_length}
use Rattle.sheet_write.proofs.text.text_length.Goals as goal

pub overflow_mul-listed : goal.overflow_mul-listed
overflow_mul-listed c = rw c.width-3.ensures (omega arith)

pub overflow_mul-held : goal.overflow_mul-held
overflow_mul-held c = rw c.width-4.ensures (omega arith)

pub overflow_add-result : goal.overflow_add-result
overflow_add-result c = rw c.width-3.ensures (omega arith)

pub overflow_add-result-2 : goal.overflow_add-result-2
overflow_add-result-2 c = rw (c.width-3.ensures, c.width-4.ensures) (omega arith)

pub overflow_mul-result : goal.overflow_mul-result
overflow_mul-result c = rw c.width-5.ensures (omega arith)

pub overflow_add-result-3 : goal.overflow_add-result-3
overflow_add-result-3 c = rw (c.width-3.ensures, c.width-4.ensures, c.width-5.ensures) (omega arith)

pub returns : goal.returns
unfolding text_length
returns c = rw (c.width-3.ensures, c.width-4.ensures, c.width-5.ensures) (omega arith)
