-- `rstorssp::execute` meets its contract: each return cites the way through the definition that leads to it. Assumes nothing.
use mathlib.Core.Path.{◌≡◌, sym, ◌∙◌}
use mathlib.Core.Bool.{true}
use Rattle.std.proofs.Common.{rules, Err}
use Rattle.accesses.specs.Access.{lookup_of, probe, load as load_at}
use Rattle.memory.specs.Blocked.{against}
use Rattle.numbers.specs.declared.size.Size.TheVariants.{Eight}
use Rattle.answers.specs.Blame.{blame}
use Rattle.processor.proofs.Laws.{made}
use Rattle.processor.specs.State.{usable}
use Rattle.processor.specs.Accesses.{shadow}
use Rattle.rstorssp.proofs.RstorsspWays.{loaded_can, not_usable, not_aligned, blocked, bad_token, restored}
use Rattle.rstorssp.proofs.execute.Goals.{After-load, After-store, Else-not-usable}
use Rattle.rstorssp.proofs.execute.Goals as goal

-- what is known after each test, after the load and after the store
is_usable : (c : Else-not-usable) → usable c.args.state ≡ true
is_usable c = sym c.usable.ensures ∙ c.if-not-usable.false

found : (c : After-load) →
    let access = shadow c.args.state c.args.a Eight true in
    against access (load_at (lookup_of c.args.pages.now c.args.bytes.now) c.args.bytes.now access) ≡ c.load.result
found c = rw (← c.shadow-access.ensures) (sym c.load.ensures)

tried : (c : After-store) →
    let access = shadow c.args.state c.args.a Eight true in
    against access (probe (lookup_of c.args.pages.now c.args.bytes.now) access) ≡ c.store.result
tried c = rw (← c.shadow-access.ensures) (sym c.store.ensures.value)

pub returns-then-not-usable : goal.returns-then-not-usable
returns-then-not-usable c = rw c.fault.ensures (sym (not_usable _ _ _ _ _ (sym c.usable.ensures ∙ c.if-not-usable.true)))

pub returns-then-a-ne0 : goal.returns-then-a-ne0
returns-then-a-ne0 c =
    rw c.fault-then-a-ne0.ensures
    (sym (not_aligned _ _ _ _ _ (is_usable (goal.at.returns-then-a-ne0 c).Else-not-usable) c.if-a-ne0.true))

pub returns-in_err-token : goal.returns-in_err-token
returns-in_err-token c =
    let b = c.in_err-token.field-0.0 in
    let failed : c.from_residual.result ≡ Err (blame b.access b.failure) = search rules in
    rw failed
    (sym (blocked _ _ _ _ _ (is_usable (goal.at.returns-in_err-token c).Else-not-usable) c.if-a-ne0.false b (found (goal.at.returns-in_err-token c).After-load ∙ c.in_err-token.was)))

pub returns-then-not-good_token : goal.returns-then-not-good_token
returns-then-not-good_token c =
    rw c.control_fault.ensures
    (sym (bad_token _ _ _ _ _ (is_usable (goal.at.returns-then-not-good_token c).Else-not-usable) c.if-a-ne0.false _ (found (goal.at.returns-then-not-good_token c).After-load ∙ c.in_ok-token.was)
    (sym c.good_token.ensures ∙ c.if-not-good_token.true)))

-- a token that was loaded can be stored over
pub returns-in_err-store : goal.returns-in_err-store
returns-in_err-store c =
    absurd (loaded_can _ _ _ _ (sym c.in_ok-token.ensures) _ (sym c.in_err-store.ensures.value))

pub returns : goal.returns
returns c =
    let can = tried (goal.at.returns c).After-store ∙ c.in_ok-store.was in
    rw (
      c.next.ensures,
      c.restored_flags.ensures,
      c.store.ensures.bytes_after,
      c.shadow-access.ensures,
      c.plus-previous.ensures,
      c.long_bit.ensures,
      made _ _ _ _ can,
    )
    (sym (restored _ _ _ _ _ (is_usable (goal.at.returns c).Else-not-usable) c.if-a-ne0.false _ (found (goal.at.returns c).After-load ∙ c.in_ok-token.was)
    (sym c.good_token.ensures ∙ c.if-not-good_token.false) can))
