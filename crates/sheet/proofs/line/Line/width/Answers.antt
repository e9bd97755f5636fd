-- `Line::width` meets its contract: a line is not long. Assumes nothing.
use native.Mathlib.Omega.{arith}
use Rattle.sheet.proofs.LineLaws.{few_fields, early_first}
use Rattle.sheet.proofs.line.Line.width.Goals as goal

pub overflow_mul-result : goal.overflow_mul-result
overflow_mul-result c = let few = few_fields c.args.self in omega arith

pub overflow_add-result : goal.overflow_add-result
overflow_add-result c = let few = few_fields c.args.self in let early = early_first c.args.self in omega arith
