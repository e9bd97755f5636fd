-- `leave_token` meets its contract: each return cites the way through the definition that leads to it. Assumes nothing.
use mathlib.Core.Path.{◌≡◌, sym, ◌∙◌, ap}
use mathlib.Core.Bool.{true}
use Rattle.std.proofs.Common.{rules, ℕ, Result, Err}
use Rattle.accesses.specs.Access.{lookup_of}
use Rattle.stores.specs.Stores.{try_all, written_all, left_by}
use Rattle.answers.specs.Blame.{blame}
use Rattle.answers.specs.declared.answer.Fault.{Fault}
use Rattle.processor.specs.State.{plus}
use Rattle.processor.specs.Prog.{interp}
use Rattle.processor.specs.Popped.{result_of}
use Rattle.saveprevssp.specs.Saveprevssp.{new_top, saved_token}
use Rattle.saveprevssp.proofs.SaveprevsspWays.{left_stores, top_failed, not_saved, not_left, left_behind}
use Rattle.saveprevssp.proofs.leave_token.Goals.{After-new_top, After-store_all, Else-not-saved_token}
use Rattle.saveprevssp.proofs.leave_token.Goals as goal

-- the way that its pop went
went : (c : After-new_top) (popped : Result ℕ Fault) → c.new_top.result ≡ popped
    → interp (lookup_of c.args.pages.now c.args.bytes.now) (new_top c.args.state (plus c.args.state c.args.state.ssp 8)) c.args.bytes.now
    ≡ result_of popped c.args.bytes.now
went c popped e =
    rw (← c.plus.ensures) (sym c.new_top.ensures)
    ∙ ap (λ (p : Result ℕ Fault). result_of p c.args.bytes.now) e

is_saved : (c : Else-not-saved_token) → saved_token c.args.state c.args.token ≡ true
is_saved c = sym c.saved_token.ensures ∙ c.if-not-saved_token.false

-- what came of the stores, as the definition has them
stored : (c : After-store_all) →
    let look = lookup_of c.args.pages.now c.args.bytes.now in
    let stores = left_stores c.args.token c.args.state in
    (c.store_all.result ≡ try_all look stores) × (c.store_all.new.bytes ≡ left_by c.store_all.result (written_all look stores c.args.bytes.now) c.args.bytes.now)
stored c =
    let all = rw (c.shadow-2.ensures, c.minus-2.ensures, c.shadow.ensures, c.minus.ensures, c.long_bit.ensures) at c.store_all.ensures in
    (all.value, all.bytes_after)

pub returns-in_err-top : goal.returns-in_err-top
returns-in_err-top c =
    let failed : c.from_residual.result ≡ Err c.in_err-top.field-0.0 = search rules in
    rw failed (sym (top_failed _ _ _ _ _ _ (went (goal.at.returns-in_err-top c).After-new_top _ c.in_err-top.was)))

pub returns-then-not-saved_token : goal.returns-then-not-saved_token
returns-then-not-saved_token c =
    rw c.fault.ensures
    (sym (not_saved _ _ _ _ _ _ (went (goal.at.returns-then-not-saved_token c).After-new_top _ c.in_ok-top.was)
    (sym c.saved_token.ensures ∙ c.if-not-saved_token.true)))

pub returns-in_err-store_all : goal.returns-in_err-store_all
returns-in_err-store_all c =
    let b = c.in_err-store_all.field-0.0 in
    let failed : c.from_residual-in_err-store_all.result ≡ Err (blame b.access b.failure) = search rules in
    let all = stored (goal.at.returns-in_err-store_all c).After-store_all in
    rw (failed, all.1, c.in_err-store_all.was)
    (sym (not_left _ _ _ _ _ _ (went (goal.at.returns-in_err-store_all c).After-new_top _ c.in_ok-top.was) (is_saved (goal.at.returns-in_err-store_all c).Else-not-saved_token) b
    (sym all.0 ∙ c.in_err-store_all.was)))

pub returns : goal.returns
returns c =
    let all = stored (goal.at.returns c).After-store_all in
    rw (c.next.ensures, all.1, c.in_ok-store_all.was)
    (sym (left_behind _ _ _ _ _ _ (went (goal.at.returns c).After-new_top _ c.in_ok-top.was) (is_saved (goal.at.returns c).Else-not-saved_token)
    (sym all.0 ∙ c.in_ok-store_all.was)))
