-- `wruss::execute` meets its contract: each return cites the way through the definition that leads to it. Assumes nothing.
use Rattle.std.proofs.Common.{◌%◌, ◌≡◌, sym, ◌∙◌, true}
use Rattle.numbers.specs.Numbers.{byte_count}
use Rattle.accesses.specs.Access.{lookup_of, probe}
use Rattle.memory.specs.Blocked.{against}
use Rattle.processor.proofs.Laws.{made, not_made, blamed}
use Rattle.wruss.specs.Wruss.{recognised, user_store}
use Rattle.wruss.proofs.WrussWays.{not_recognised, not_kernel, not_aligned, blocked, wrote}
use Rattle.wruss.proofs.execute.Goals.{After-store, Else-a-bytes-ne0, Else-not-recognised, then-state-ne0-via-then-state-ne0, then-state-ne0-via-else-state-ne0+then-a-bytes-ne0}
use Rattle.wruss.proofs.execute.Goals as goal

-- what is known after each test, and after the store
is_recognised : (c : Else-not-recognised) → recognised c.args.state ≡ true
is_recognised c = sym c.recognised.ensures ∙ c.if-not-recognised.false

is_aligned : (c : Else-a-bytes-ne0) →
    let args = c.args in
    args.a % byte_count args.size ≡ 0
is_aligned c = rw (← c.bytes.ensures) c.if-a-bytes-ne0.false

tried : (c : After-store) →
    let args = c.args in
    let place = user_store args.state args.a args.size in
    against place (probe (lookup_of args.pages.now args.bytes.now) place) ≡ c.store.result
tried c = rw (← c.user_store.ensures) (sym c.store.ensures.value)

pub returns-then-not-recognised : goal.returns-then-not-recognised
returns-then-not-recognised c =
    rw c.fault.ensures (sym (not_recognised _ _ _ _ _ _ _ (sym c.recognised.ensures ∙ c.if-not-recognised.true)))

pub returns-then-state-ne0 : goal.returns-then-state-ne0
returns-then-state-ne0 c =
    let known = is_recognised (goal.at.returns-then-state-ne0 c).Else-not-recognised in
    rw c.fault-then-state-ne0.ensures
    (sym (elim c.then-state-ne0.branch [
      | then-state-ne0-via-then-state-ne0 w ↦ not_kernel _ _ _ _ _ _ _ known w.if-state-ne0.true
      | then-state-ne0-via-else-state-ne0+then-a-bytes-ne0 w ↦ not_aligned _ _ _ _ _ _ _ known w.if-state-ne0.false (λ e. w.if-a-bytes-ne0.true (rw w.bytes.ensures e))
    ]))

pub returns-in_err-store : goal.returns-in_err-store
returns-in_err-store c =
    let failed = tried (goal.at.returns-in_err-store c).After-store ∙ c.in_err-store.was in
    rw (blamed _ c.in_err-store.field-0.0 c.from_residual.ensures.1, c.store.ensures.bytes_after, c.user_store.ensures, not_made _ _ _ _ _ failed)
    (sym (blocked _ _ _ _ _ _ _ (is_recognised (goal.at.returns-in_err-store c).Else-not-recognised) c.if-state-ne0.false
    (is_aligned (goal.at.returns-in_err-store c).Else-a-bytes-ne0) _ failed))

pub returns : goal.returns
returns c =
    let ready = tried (goal.at.returns c).After-store ∙ c.in_ok-store.was in
    rw (c.next.ensures, c.store.ensures.bytes_after, c.user_store.ensures, made _ _ _ _ ready)
    (sym (wrote _ _ _ _ _ _ _ (is_recognised (goal.at.returns c).Else-not-recognised) c.if-state-ne0.false (is_aligned (goal.at.returns c).Else-a-bytes-ne0) ready))
