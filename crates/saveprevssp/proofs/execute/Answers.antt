-- `saveprevssp::execute` meets its contract: each return cites the way through the definition that leads to it. Assumes nothing.
use mathlib.Core.Path.{◌≡◌, sym, ◌∙◌}
use mathlib.Core.Bool.{true, false}
use Rattle.std.proofs.Common.{rules, Err}
use Rattle.accesses.specs.Access.{lookup_of, load as load_at}
use Rattle.memory.specs.Blocked.{against}
use Rattle.numbers.specs.declared.size.Size.TheVariants.{Eight}
use Rattle.answers.specs.Blame.{blame}
use Rattle.processor.specs.State.{usable}
use Rattle.processor.specs.Accesses.{shadow}
use Rattle.saveprevssp.proofs.SaveprevsspWays.{not_usable, not_aligned, blocked, popped}
use Rattle.saveprevssp.proofs.execute.Goals.{After-load, Else-not-usable}
use Rattle.saveprevssp.proofs.execute.Goals as goal

is_usable : (c : Else-not-usable) → usable c.args.state ≡ true
is_usable c = sym c.usable.ensures ∙ c.if-not-usable.false

found : (c : After-load) →
    let access = shadow c.args.state c.args.state.ssp Eight false in
    against access (load_at (lookup_of c.args.pages.now c.args.bytes.now) c.args.bytes.now access) ≡ c.load.result
found c = rw (← c.shadow-access.ensures) (sym c.load.ensures)

pub returns-then-not-usable : goal.returns-then-not-usable
returns-then-not-usable c = rw c.fault.ensures (sym (not_usable _ _ _ _ (sym c.usable.ensures ∙ c.if-not-usable.true)))

pub returns-then-state-ne0 : goal.returns-then-state-ne0
returns-then-state-ne0 c =
    rw c.fault-then-state-ne0.ensures
    (sym (not_aligned _ _ _ _ (is_usable (goal.at.returns-then-state-ne0 c).Else-not-usable) c.if-state-ne0.true))

pub returns-in_err-token : goal.returns-in_err-token
returns-in_err-token c =
    let b = c.in_err-token.field-0.0 in
    let failed : c.from_residual.result ≡ Err (blame b.access b.failure) = search rules in
    rw failed
    (sym (blocked _ _ _ _ (is_usable (goal.at.returns-in_err-token c).Else-not-usable) c.if-state-ne0.false b (found (goal.at.returns-in_err-token c).After-load ∙ c.in_err-token.was)))

pub returns : goal.returns
returns c =
    c.leave_token.ensures
    ∙ sym (popped _ _ _ _ (is_usable (goal.at.returns c).Else-not-usable) c.if-state-ne0.false _ (found (goal.at.returns c).After-load ∙ c.in_ok-token.was))
