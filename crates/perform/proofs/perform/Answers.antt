-- `perform` meets its contract: the form is tested, then the operation runs on the state without the permission bits. Assumes nothing.
use Rattle.std.proofs.Common.{sym, ◌∙◌, Ok, Err}
use Rattle.instructions.specs.Permission.{shown}
use Rattle.perform.proofs.ExecLaws.{malformed, answered}
use Rattle.perform.proofs.perform.Goals.{in_default-via-in-Ok+else-fits, in_default-via-in_default}
use Rattle.perform.proofs.perform.Goals as goal

pub returns-in_default : goal.returns-in_default
returns-in_default c =
    rw c.refuse.ensures (malformed _ _ _ _
    (elim c.in_default.branch [
      | in_default-via-in-Ok+else-fits w ↦ λ op name. cc
      | in_default-via-in_default w ↦ λ op name. absurd (w.in_default.not-Ok op (c.try_from.ensures ∙ name))
    ]))

pub returns-in-Ok-dispatch : goal.returns-in-Ok-dispatch
unfolding shown
returns-in-Ok-dispatch c =
    rw (c.complete.ensures, c.shown.ensures)
    (answered _ _ _ _ c.in-Ok.operation (Ok c.in-Ok-dispatch.after) _ (sym c.try_from.ensures ∙ c.in-Ok.is) (sym c.fits.ensures ∙ c.if-fits.true)
    (rw (← c.hidden.ensures, ← c.permitted.ensures) c.in-Ok-dispatch.ensures))

pub returns-in-Err : goal.returns-in-Err
returns-in-Err c =
    rw c.fail.ensures
    (answered _ _ _ _ c.in-Ok.operation (Err c.in-Err.fault) _ (sym c.try_from.ensures ∙ c.in-Ok.is) (sym c.fits.ensures ∙ c.if-fits.true)
    (rw (← c.hidden.ensures, ← c.permitted.ensures) c.in-Err.ensures))
