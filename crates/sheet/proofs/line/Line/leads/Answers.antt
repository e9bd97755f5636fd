-- `Line::leads` meets its contract: its tests, one behind the other, are that of the form. Assumes nothing.
use Rattle.std.proofs.Common.{refl, sym, ap, ◌∙◌}
use Rattle.std.proofs.lemmas.Bool.{false≢true}
use Rattle.texts.specs.Fields.{begins}
use Rattle.sheet.proofs.LineLaws.{line_short}
use Rattle.sheet.proofs.Turns.{line_tested, fields_tested}
use Rattle.sheet.proofs.line.Line.leads.Goals.{then-begins, else-begins}
use Rattle.sheet.proofs.line.Line.leads.Goals as goal

pub returns-then-text-width : goal.returns-then-text-width
returns-then-text-width c = sym (line_short _ _ (rw c.width.ensures at c.if-text-width.true))

pub returns-then-fields_stand : goal.returns-then-fields_stand
returns-then-fields_stand c =
    let room = rw c.width.ensures at c.if-text-width.false in
    let named = ap (λ l. begins l c.args.text.now) (sym c.name.ensures) ∙ sym c.begins.ensures in
    elim c.if-begins.branch [
      | then-begins w ↦ rw (
        line_tested c.args.self c.args.text.now room,
        named ∙ w.if-begins.true,
        fields_tested c.args.self c.args.text.now _ _ w.count.ensures w.first.ensures _ w.fields_stand.ensures ∙ sym w.value-is ∙ c.if-fields_stand.true,
        c.width-then-fields_stand.ensures,
      ) refl
      | else-begins w ↦ absurd (false≢true (sym (w.value-is ∙ w.if-begins.false) ∙ c.if-fields_stand.true))
    ]

pub returns-else-fields_stand : goal.returns-else-fields_stand
returns-else-fields_stand c =
    let room = rw c.width.ensures at c.if-text-width.false in
    let named = ap (λ l. begins l c.args.text.now) (sym c.name.ensures) ∙ sym c.begins.ensures in
    elim c.if-begins.branch [
      | then-begins w ↦ rw (
        c.if-fields_stand.false,
        line_tested c.args.self c.args.text.now room,
        named ∙ w.if-begins.true,
        fields_tested c.args.self c.args.text.now _ _ w.count.ensures w.first.ensures _ w.fields_stand.ensures ∙ sym w.value-is ∙ c.if-fields_stand.false,
      ) refl
      | else-begins w ↦ rw (c.if-fields_stand.false, line_tested c.args.self c.args.text.now room, named ∙ w.if-begins.false) refl
    ]
