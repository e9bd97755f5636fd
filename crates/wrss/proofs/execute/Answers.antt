-- `wrss::execute` meets its contract: each return cites the way through the definition that leads to it. Assumes nothing.
use Rattle.std.proofs.Common.{◌%◌, ◌≡◌, sym, ◌∙◌, true}
use Rattle.numbers.specs.Numbers.{byte_count}
use Rattle.accesses.specs.Access.{lookup_of, probe}
use Rattle.memory.specs.Blocked.{against}
use Rattle.processor.specs.State.{usable}
use Rattle.processor.specs.Accesses.{shadow}
use Rattle.processor.proofs.Laws.{made, not_made, blamed}
use Rattle.wrss.proofs.WrssWays.{not_usable, not_permitted_lem, not_aligned, blocked, wrote}
use Rattle.wrss.proofs.execute.Goals.{After-store, Else-a-bytes-ne0, Else-not-usable, then-not-usable-via-then-not-usable, then-not-usable-via-else-not-usable+then-not-permitted}
use Rattle.wrss.proofs.execute.Goals as goal

-- what is known after each test, and after the store
is_usable : (c : Else-not-usable) → usable c.args.state ≡ true
is_usable c = sym c.usable.ensures ∙ c.if-not-usable.false

is_aligned : (c : Else-a-bytes-ne0) →
    let args = c.args in
    args.a % byte_count args.size ≡ 0
is_aligned c = rw (← c.bytes.ensures) c.if-a-bytes-ne0.false

tried : (c : After-store) →
    let args = c.args in
    let place = shadow args.state args.a args.size true in
    against place (probe (lookup_of args.pages.now args.bytes.now) place) ≡ c.store.result
tried c = rw (← c.shadow.ensures) (sym c.store.ensures.value)

pub returns-then-not-usable : goal.returns-then-not-usable
returns-then-not-usable c =
    rw c.fault.ensures
    (sym (elim c.then-not-usable.branch [
      | then-not-usable-via-then-not-usable w ↦ not_usable _ _ _ _ _ _ _ _ (sym c.usable.ensures ∙ w.if-not-usable.true)
      | then-not-usable-via-else-not-usable+then-not-permitted w ↦ not_permitted_lem _ _ _ _ _ _ _ _ (sym c.usable.ensures ∙ w.if-not-usable.false) w.if-not-permitted.true
    ]))

pub returns-then-a-bytes-ne0 : goal.returns-then-a-bytes-ne0
returns-then-a-bytes-ne0 c =
    rw c.fault-then-a-bytes-ne0.ensures
    (sym (not_aligned _ _ _ _ _ _ _ _ (is_usable (goal.at.returns-then-a-bytes-ne0 c).Else-not-usable) c.if-not-permitted.false
    (λ e. c.if-a-bytes-ne0.true (rw c.bytes.ensures e))))

pub returns-in_err-store : goal.returns-in_err-store
returns-in_err-store c =
    let failed = tried (goal.at.returns-in_err-store c).After-store ∙ c.in_err-store.was in
    rw (blamed _ c.in_err-store.field-0.0 c.from_residual.ensures.1, c.store.ensures.bytes_after, c.shadow.ensures, not_made _ _ _ _ _ failed)
    (sym (blocked _ _ _ _ _ _ _ _ (is_usable (goal.at.returns-in_err-store c).Else-not-usable) c.if-not-permitted.false (is_aligned (goal.at.returns-in_err-store c).Else-a-bytes-ne0) _ failed))

pub returns : goal.returns
returns c =
    let ready = tried (goal.at.returns c).After-store ∙ c.in_ok-store.was in
    rw (c.next.ensures, c.store.ensures.bytes_after, c.shadow.ensures, made _ _ _ _ ready)
    (sym (wrote _ _ _ _ _ _ _ _ (is_usable (goal.at.returns c).Else-not-usable) c.if-not-permitted.false (is_aligned (goal.at.returns c).Else-a-bytes-ne0) ready))
