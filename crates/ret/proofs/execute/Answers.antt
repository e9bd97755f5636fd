-- `ret::execute` meets its contract: each return cites the way through the definition that leads to it. Assumes nothing.
use mathlib.Core.Path.{◌≡◌, sym, ◌∙◌}
use mathlib.Core.Bool.{false}
use Rattle.std.proofs.Common.{rules, Err}
use Rattle.accesses.specs.Access.{lookup_of, load as load_at}
use Rattle.memory.specs.Blocked.{against}
use Rattle.answers.specs.Blame.{blame}
use Rattle.processor.specs.Accesses.{ordinary}
use Rattle.targets.specs.Targets.{pushed, runs_past}
use Rattle.ret.proofs.RetWays.{stack_end, pop_blocked, frame_failed, outside, returned}
use Rattle.ret.proofs.execute.Goals.{After-load, Else-runs_past}
use Rattle.ret.proofs.execute.Goals as goal

is_inside : (c : Else-runs_past) → runs_past c.args.state c.args.state.sp ≡ false
is_inside c = sym c.runs_past.ensures ∙ c.if-runs_past.false

-- the pop off the ordinary stack
loaded : (c : After-load) →
    let access = ordinary c.args.state c.args.state.sp (pushed c.args.state) false in
    against access (load_at (lookup_of c.args.pages.now c.args.bytes.now) c.args.bytes.now access) ≡ c.load.result
loaded c = rw (← c.pushed-size.ensures, ← c.ordinary-access.ensures) (sym c.load.ensures)

pub returns-then-runs_past : goal.returns-then-runs_past
returns-then-runs_past c = rw c.fault.ensures (sym (stack_end _ _ _ _ (sym c.runs_past.ensures ∙ c.if-runs_past.true)))

pub returns-in_err-target : goal.returns-in_err-target
returns-in_err-target c =
    let b = c.in_err-target.field-0.0 in
    let failed : c.from_residual.result ≡ Err (blame b.access b.failure) = search rules in
    rw failed
    (sym (pop_blocked _ _ _ _ (is_inside (goal.at.returns-in_err-target c).Else-runs_past) b (loaded (goal.at.returns-in_err-target c).After-load ∙ c.in_err-target.was)))

pub returns-in_err-ssp : goal.returns-in_err-ssp
returns-in_err-ssp c =
    let popped = loaded (goal.at.returns-in_err-ssp c).After-load ∙ c.in_ok-target.was in
    let failed : c.from_residual-in_err-ssp.result ≡ Err c.in_err-ssp.field-0.0 = search rules in
    rw failed
    (sym (frame_failed _ _ _ _ (is_inside (goal.at.returns-in_err-ssp c).Else-runs_past) _ popped _ (sym c.in_err-ssp.ensures)))

pub returns-then-not-in_code : goal.returns-then-not-in_code
returns-then-not-in_code c =
    let popped = loaded (goal.at.returns-then-not-in_code c).After-load ∙ c.in_ok-target.was in
    rw c.fault-then-not-in_code.ensures
    (sym (outside _ _ _ _ (is_inside (goal.at.returns-then-not-in_code c).Else-runs_past) _ popped _ (sym c.in_ok-ssp.ensures) (sym c.in_code.ensures ∙ c.if-not-in_code.true)))

pub returns : goal.returns
returns c =
    let popped = loaded (goal.at.returns c).After-load ∙ c.in_ok-target.was in
    rw (c.plus-2.ensures, c.plus.ensures, c.bytes.ensures, c.pushed-size.ensures)
    (sym (returned _ _ _ _ (is_inside (goal.at.returns c).Else-runs_past) _ popped _ (sym c.in_ok-ssp.ensures) (sym c.in_code.ensures ∙ c.if-not-in_code.false)))
