-- `put_fields` meets its contract. The invariant: the fields still to be laid, from here on, give the whole. Assumes nothing.
use Rattle.std.proofs.Common.{◌+◌, ◌*◌, ◌≤◌, length, sym, ◌∙◌, arith}
use Rattle.texts.proofs.Turns.{fields_end, fields_turn}
use Rattle.texts.proofs.Fields.{fields_length}
use Rattle.texts.proofs.put.put_fields.Goals as goal

pub overflow_mul-i : goal.overflow_mul-i
overflow_mul-i c = omega (arith, fields_length c.args.values.now, c.requires)

pub overflow_add-at : goal.overflow_add-at
overflow_add-at c = omega (arith, fields_length c.args.values.now, c.requires)

pub put_field-requires : goal.put_field-requires
put_field-requires c = omega (arith, fields_length c.args.values.now, c.requires)

pub loop-i-preserved : goal.loop-i-preserved
loop-i-preserved c =
    let text = c.loop-i.text in
    let values = c.args.values.now in
    let i = c.loop-i.i in
    let room : c.args.at + 18 * i + 18 ≤ length text = omega (arith, fields_length values, c.requires) in
    c.loop-i.invariant ∙ (fields_turn text c.args.at values i c.loop-i-test.true room ∙ rw c.put_field.ensures)

pub returns : goal.returns
returns c = sym (c.loop-i.invariant ∙ fields_end _ _ _ _ c.loop-i-test.false)
