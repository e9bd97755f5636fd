-- `new_top` meets its contract, by CF and the mode. Assumes nothing.
use mathlib.Core.Path.{◌≡◌, sym, ◌∙◌}
use mathlib.Core.Bool.{true}
use Rattle.saveprevssp.specs.Saveprevssp.{carry}
use Rattle.saveprevssp.proofs.SaveprevsspWays.{no_hole, hole_in_long, a_hole}
use Rattle.saveprevssp.proofs.new_top.Goals.{Else-not-carry}
use Rattle.saveprevssp.proofs.new_top.Goals as goal

-- CF is set past the first test
is_set : (c : Else-not-carry) →
    let args = c.args in
    carry args.state ≡ true
is_set c = sym c.carry.ensures ∙ c.if-not-carry.false

pub returns-then-not-carry : goal.returns-then-not-carry
returns-then-not-carry c = sym (no_hole _ _ _ _ (sym c.carry.ensures ∙ c.if-not-carry.true))

pub returns-then-is_long : goal.returns-then-is_long
returns-then-is_long c =
    rw c.fault.ensures
    (sym (hole_in_long _ _ _ _ (is_set (goal.at.returns-then-is_long c).Else-not-carry) (sym c.is_long.ensures ∙ c.if-is_long.true)))

pub returns : goal.returns
returns c =
    c.pop_hole.ensures
    ∙ sym (a_hole _ _ _ _ (is_set (goal.at.returns c).Else-not-carry) (sym c.is_long.ensures ∙ c.if-is_long.false))
