-- `new_ssp` meets its contract, by what the shadow load gives. Assumes nothing.
use mathlib.Core.Path.{◌≡◌, sym, ◌∙◌}
use mathlib.Core.Bool.{true, false}
use Rattle.std.proofs.Common.{rules, Err}
use Rattle.accesses.specs.Access.{lookup_of, load as load_at}
use Rattle.memory.specs.Blocked.{against}
use Rattle.answers.specs.Blame.{blame}
use Rattle.processor.specs.State.{enabled}
use Rattle.processor.specs.Accesses.{shadow}
use Rattle.targets.specs.Targets.{pushed}
use Rattle.ret.proofs.RetWays.{not_asked, frame_blocked, frame_differs, frame_popped}
use Rattle.ret.proofs.new_ssp.Goals.{After-load, Else-not-enabled}
use Rattle.ret.proofs.new_ssp.Goals as goal

is_on : (c : Else-not-enabled) → enabled c.args.state ≡ true
is_on c = sym c.enabled.ensures ∙ c.if-not-enabled.false

found : (c : After-load) →
    let access = shadow c.args.state c.args.state.ssp (pushed c.args.state) false in
    against access (load_at (lookup_of c.args.pages.now c.args.bytes.now) c.args.bytes.now access) ≡ c.load.result
found c = rw (← c.pushed-size.ensures, ← c.shadow-access.ensures) (sym c.load.ensures)

pub returns-then-not-enabled : goal.returns-then-not-enabled
returns-then-not-enabled c = sym (not_asked _ _ _ _ (sym c.enabled.ensures ∙ c.if-not-enabled.true))

pub returns-in_err-frame : goal.returns-in_err-frame
returns-in_err-frame c =
    let b = c.in_err-frame.field-0.0 in
    let failed : c.from_residual.result ≡ Err (blame b.access b.failure) = search rules in
    rw failed (sym (frame_blocked _ _ _ _ (is_on (goal.at.returns-in_err-frame c).Else-not-enabled) b (found (goal.at.returns-in_err-frame c).After-load ∙ c.in_err-frame.was)))

pub returns-then-frame-target : goal.returns-then-frame-target
returns-then-frame-target c =
    rw c.control_fault.ensures
    (sym (frame_differs _ _ _ _ (is_on (goal.at.returns-then-frame-target c).Else-not-enabled) _ (found (goal.at.returns-then-frame-target c).After-load ∙ c.in_ok-frame.was) c.if-frame-target.true))

pub returns : goal.returns
returns c =
    rw (c.plus.ensures, c.bytes.ensures, c.pushed-size.ensures)
    (sym (frame_popped _ _ _ _ (is_on (goal.at.returns c).Else-not-enabled) _ (found (goal.at.returns c).After-load ∙ c.in_ok-frame.was) c.if-frame-target.false))
