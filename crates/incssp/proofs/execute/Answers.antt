-- `incssp::execute` meets its contract: each return cites the way through the definition that leads to it. Assumes nothing.
use Rattle.std.proofs.Common.{◌-◌, ◌*◌, ◌%◌, ◌≡◌, sym, ◌∙◌, true, false}
use Rattle.numbers.specs.Numbers.{byte_count}
use Rattle.accesses.specs.Access.{lookup_of, load as load_at}
use Rattle.processor.specs.State.{usable, plus}
use Rattle.processor.specs.Accesses.{shadow}
use Rattle.memory.specs.Blocked.{against}
use Rattle.processor.proofs.Laws.{blamed}
use Rattle.incssp.proofs.IncsspWays.{not_usable, first_blocked, none, last_blocked, popped}
use Rattle.incssp.proofs.execute.Goals.{Else-not-usable, After-load, After-load-then-range-ne0, then-range-ne0+in_ok-load-2, else-range-ne0}
use Rattle.incssp.proofs.execute.Goals as goal

-- what is known once the state is usable, and after the first load
is_usable : (c : Else-not-usable) →
    let args = c.args in
    usable args.state ≡ true
is_usable c = sym c.usable.ensures ∙ c.if-not-usable.false

first : (c : After-load) →
    let args = c.args in
    against (shadow args.state args.state.ssp args.size false) (load_at (lookup_of args.pages.now args.bytes.now) args.bytes.now (shadow args.state args.state.ssp args.size false))
    ≡ c.load.result
first c = rw (← c.shadow.ensures) (sym c.load.ensures)

last : (c : After-load-then-range-ne0) →
    let args = c.args in
    let place = shadow args.state (plus args.state args.state.ssp (byte_count args.size * (args.b % 256 - 1))) args.size false in
    against place (load_at (lookup_of args.pages.now args.bytes.now) args.bytes.now place) ≡ c.load-then-range-ne0.result
last c = rw (← c.bytes-n.ensures, ← c.plus-last.ensures, ← c.shadow-then-range-ne0.ensures) (sym c.load-then-range-ne0.ensures)

pub returns-then-not-usable : goal.returns-then-not-usable
returns-then-not-usable c =
    rw c.fault.ensures
    (sym (not_usable _ _ _ _ _ _ (sym c.usable.ensures ∙ c.if-not-usable.true)))

pub returns-in_err-load : goal.returns-in_err-load
returns-in_err-load c =
    rw (blamed _ c.in_err-load.field-0.0 c.from_residual.ensures.1)
    (sym (first_blocked _ _ _ _ _ _ (is_usable (goal.at.returns-in_err-load c).Else-not-usable) _ (first (goal.at.returns-in_err-load c).After-load ∙ c.in_err-load.was)))

pub returns-in_err-load-2 : goal.returns-in_err-load-2
returns-in_err-load-2 c =
    rw (blamed _ c.in_err-load-2.field-0.0 c.from_residual-in_err-load-2.ensures.1)
    (sym (last_blocked _ _ _ _ _ _ (is_usable (goal.at.returns-in_err-load-2 c).Else-not-usable) _ (first (goal.at.returns-in_err-load-2 c).After-load ∙ c.in_ok-load.was) c.if-range-ne0.true _
    (last (goal.at.returns-in_err-load-2 c).After-load-then-range-ne0 ∙ c.in_err-load-2.was)))

pub returns : goal.returns
returns c =
    let ready = is_usable (goal.at.returns c).Else-not-usable in
    let touched = first (goal.at.returns c).After-load ∙ c.in_ok-load.was in
    rw (c.next.ensures, c.plus.ensures, c.bytes-n.ensures)
    (sym (elim c.if-range-ne0.branch [
      | then-range-ne0+in_ok-load-2 w ↦ popped _ _ _ _ _ _ ready _ touched w.if-range-ne0.true _
          (rw (← c.bytes-n.ensures, ← w.plus-last.ensures, ← w.shadow-then-range-ne0.ensures) (sym w.load-then-range-ne0.ensures) ∙ w.in_ok-load-2.was)
      | else-range-ne0 w ↦ none _ _ _ _ _ _ ready _ touched w.if-range-ne0.false
    ]))
