-- `begins` meets its contract. Assumes nothing.
use Rattle.std.proofs.Common.{rules, arith, sym, refl, length}
use Rattle.std.specs.Slice.Iter.{iter_rest}
use mathlib.Core.Logic.{⊎_elim}
use Rattle.texts.proofs.FormLaws.{begins_short}
use Rattle.sheet.proofs.Turns.{tell_mark, tell_all}
use Rattle.sheet.proofs.forms.begins.Goals as goal

pub returns-then-text-form : goal.returns-then-text-form
returns-then-text-form c = sym (begins_short _ _ c.if-text-form.true)

pub loop-mark-init : goal.loop-mark-init
loop-mark-init c = record { told = search rules; room = search rules }

pub loop-mark-preserved : goal.loop-mark-preserved
loop-mark-preserved c =
    let steps = c.in-Some.ensures.steps in
    rw c.fits_mark-good.ensures
    (tell_mark _ _ _ _ _ _ (rw (steps.0, steps.1) at c.loop-mark.invariant))

pub returns : goal.returns
returns c =
    let room = c.loop-mark.invariant.room in
    let none = ⊎_elim (λ a. a.1.0) (λ b. let e = b.1.0 in omega arith) c.in-None.ensures.steps in
    sym (tell_all _ _ _ _ c.loop-mark.invariant none)
