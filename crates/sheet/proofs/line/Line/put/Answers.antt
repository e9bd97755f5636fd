-- `Line::put` meets its contract: with its own count of numbers it is a line of its name. Assumes nothing.
use Rattle.std.proofs.Common.{arith, sym, ◌≡◌, length, ◌∙◌}
use borrow.Author.Tests.{ne_eqb}
use Rattle.sheet.specs.Lines.{field_count}
use Rattle.sheet.proofs.Turns.{other_count, line_kept, line_by_name}
use Rattle.sheet.proofs.line.Line.put.Goals as goal

pub returns-then-values-count : goal.returns-then-values-count
returns-then-values-count c =
    let args = c.args in
    let count : length args.values.now ≡ field_count args.self = omega (arith, c.count.ensures, c.if-values-count.true) in
    let parts = line_by_name args.self _ c.name.ensures args.values.now args.text.now args.at count _ _ c.put_line.ensures.told c.put_line.ensures.put in
    record { told = parts.0; put = parts.1 }

pub returns-else-values-count : goal.returns-else-values-count
returns-else-values-count c =
    let args = c.args in
    let other : length args.values.now ≡ field_count args.self → ⊥ = λ e. omega (arith, e, c.count.ensures, c.if-values-count.false) in
    record {
      told = ne_eqb _ _ c.if-values-count.false ∙ sym (other_count args.self args.values.now args.text.now args.at other);
      put = sym (line_kept args.self args.values.now args.text.now args.at other);
    }
