-- `pop_hole` meets its contract, by what the load gives. Assumes nothing.
use mathlib.Core.Path.{◌≡◌, sym, ◌∙◌}
use mathlib.Core.Bool.{false}
use Rattle.std.proofs.Common.{rules, Err}
use Rattle.accesses.specs.Access.{lookup_of, load as load_at}
use Rattle.memory.specs.Blocked.{against}
use Rattle.numbers.specs.declared.size.Size.TheVariants.{Four}
use Rattle.answers.specs.Blame.{blame}
use Rattle.processor.specs.Accesses.{shadow}
use Rattle.saveprevssp.proofs.SaveprevsspWays.{hole_blocked, hole_filled, hole_popped}
use Rattle.saveprevssp.proofs.pop_hole.Goals.{After-load}
use Rattle.saveprevssp.proofs.pop_hole.Goals as goal

found : (c : After-load) →
    let access = shadow c.args.state c.args.top Four false in
    against access (load_at (lookup_of c.args.pages.now c.args.bytes.now) c.args.bytes.now access) ≡ c.load.result
found c = rw (← c.shadow-access.ensures) (sym c.load.ensures)

pub returns-in_err-hole : goal.returns-in_err-hole
returns-in_err-hole c =
    let b = c.in_err-hole.field-0.0 in
    let failed : c.from_residual.result ≡ Err (blame b.access b.failure) = search rules in
    rw failed (sym (hole_blocked _ _ _ _ b (found (goal.at.returns-in_err-hole c).After-load ∙ c.in_err-hole.was)))

pub returns-then-hole-ne0 : goal.returns-then-hole-ne0
returns-then-hole-ne0 c = rw c.fault.ensures (sym (hole_filled _ _ _ _ _ (found (goal.at.returns-then-hole-ne0 c).After-load ∙ c.in_ok-hole.was) c.if-hole-ne0.true))

pub returns : goal.returns
returns c = rw c.plus.ensures (sym (hole_popped _ _ _ _ _ (found (goal.at.returns c).After-load ∙ c.in_ok-hole.was) c.if-hole-ne0.false))
