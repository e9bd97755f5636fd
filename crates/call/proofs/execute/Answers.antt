-- `call::execute` meets its contract: each return cites the way through the definition that leads to it. Assumes nothing.
use mathlib.Core.Path.{◌≡◌, sym, ◌∙◌}
use mathlib.Core.Bool.{true, false}
use Rattle.std.proofs.Common.{rules, ℕ, Err, Some, None}
use Rattle.accesses.specs.Access.{lookup_of}
use Rattle.accesses.specs.declared.access.Access.{Access}
use Rattle.numbers.specs.Numbers.{byte_count}
use Rattle.numbers.specs.declared.size.Size.{Size}
use Rattle.stores.specs.Stores.{try_all, written_all, left_by}
use Rattle.stores.specs.declared.Store.{Store}
use Rattle.answers.specs.Blame.{blame}
use Rattle.processor.specs.Accesses.{ordinary}
use Rattle.processor.specs.State.{minus, next}
use Rattle.processor.specs.declared.state.State.{State}
use Rattle.targets.specs.Targets.{in_code, pushed, runs_past}
use Rattle.call.specs.Frame.{frame_of}
use Rattle.call.proofs.CallWays.{new_sp, push, pushes, outside, stack_end, not_pushed, pushed_all}
use Rattle.call.proofs.execute.Goals.{In-Some, In-None, After-store_all, After-store_all-in-None, Else-not-in_code, Else-runs_past}
use Rattle.call.proofs.execute.Goals as goal

-- SP after the push and the push itself, as the code has them
sp_is : (s : State) (size : Size) (bytes sp : ℕ) → size ≡ pushed s → bytes ≡ byte_count size → sp ≡ minus s s.sp bytes → sp ≡ new_sp s
sp_is s size bytes sp e f g = rw (g, f, e)

push_is : (s : State) (size : Size) (bytes sp : ℕ) (a : Access) (n span : ℕ) → size ≡ pushed s → bytes ≡ byte_count size → sp ≡ minus s s.sp bytes → a ≡ ordinary s sp size true → n ≡ next s span
    → ◌≡◌ {A = Store} (record { access = a; value = n }) (push span s)
push_is s size bytes sp a n span e f g h i = rw (h, i, g, f, e)

-- what is known after each test
is_inside : (c : Else-not-in_code) → in_code c.args.state c.args.target ≡ true
is_inside c = sym c.in_code.ensures ∙ c.if-not-in_code.false

fits : (c : Else-runs_past) → runs_past c.args.state (new_sp c.args.state) ≡ false
fits c =
    rw (← sp_is _ _ _ _ c.pushed-size.ensures c.bytes.ensures c.minus-sp.ensures)
    (sym c.runs_past.ensures ∙ c.if-runs_past.false)

-- the frame, as the definition has it
a_frame : (c : In-Some) → frame_of c.args.state c.args.framed (next c.args.state c.args.span) ≡ Some c.in-Some.frame
a_frame c = rw (← c.next-next.ensures) (sym c.in-Some.ensures)

no_frame : (c : In-None) → frame_of c.args.state c.args.framed (next c.args.state c.args.span) ≡ None
no_frame c = rw (← c.next-next.ensures) (sym c.in-None.ensures)

-- what came of the pushes, as the definition has them
framed_pushes : (c : After-store_all) →
    let look = lookup_of c.args.pages.now c.args.bytes.now in
    let stores = pushes c.args.span c.args.state (Some c.in-Some.frame) in
    (c.store_all.result ≡ try_all look stores) × (c.store_all.new.bytes ≡ left_by c.store_all.result (written_all look stores c.args.bytes.now) c.args.bytes.now)
framed_pushes c =
    let all = rw (push_is _ _ _ _ _ _ _ c.pushed-size.ensures c.bytes.ensures c.minus-sp.ensures c.ordinary.ensures c.next-next.ensures) at c.store_all.ensures in
    (all.value, all.bytes_after)

lone_push : (c : After-store_all-in-None) →
    let look = lookup_of c.args.pages.now c.args.bytes.now in
    let stores = pushes c.args.span c.args.state None in
    (c.store_all-in-None.result ≡ try_all look stores) × (c.store_all-in-None.new.bytes ≡ left_by c.store_all-in-None.result (written_all look stores c.args.bytes.now) c.args.bytes.now)
lone_push c =
    let all = rw (push_is _ _ _ _ _ _ _ c.pushed-size.ensures c.bytes.ensures c.minus-sp.ensures c.ordinary.ensures c.next-next.ensures) at c.store_all-in-None.ensures in
    (all.value, all.bytes_after)

pub returns-then-not-in_code : goal.returns-then-not-in_code
returns-then-not-in_code c = rw c.fault.ensures (sym (outside _ _ _ _ _ _ (sym c.in_code.ensures ∙ c.if-not-in_code.true)))

pub returns-then-runs_past : goal.returns-then-runs_past
returns-then-runs_past c =
    let past : runs_past c.args.state (new_sp c.args.state) ≡ true =
    rw (← sp_is _ _ _ _ c.pushed-size.ensures c.bytes.ensures c.minus-sp.ensures)
    (sym c.runs_past.ensures ∙ c.if-runs_past.true) in
    rw c.fault-then-runs_past.ensures
    (sym (stack_end _ _ _ _ _ _ (is_inside (goal.at.returns-then-runs_past c).Else-not-in_code) past))

pub returns-in_err-store_all-in-Some : goal.returns-in_err-store_all-in-Some
returns-in_err-store_all-in-Some c =
    let at = goal.at.returns-in_err-store_all-in-Some c in
    let b = c.in_err-store_all-in-Some.field-0.0 in
    let failed : c.from_residual.result ≡ Err (blame b.access b.failure) = search rules in
    let all = framed_pushes at.After-store_all in
    rw (failed, all.1, c.in_err-store_all-in-Some.was)
    (sym (not_pushed _ _ _ _ _ _ (is_inside at.Else-not-in_code) (fits at.Else-runs_past) _ (a_frame at.In-Some) b (sym all.0 ∙ c.in_err-store_all-in-Some.was)))

pub returns-in_err-store_all-in-None : goal.returns-in_err-store_all-in-None
returns-in_err-store_all-in-None c =
    let at = goal.at.returns-in_err-store_all-in-None c in
    let b = c.in_err-store_all-in-None.field-0.0 in
    let failed : c.from_residual-in_err-store_all-in-None.result ≡ Err (blame b.access b.failure) = search rules in
    let all = lone_push at.After-store_all-in-None in
    rw (failed, all.1, c.in_err-store_all-in-None.was)
    (sym (not_pushed _ _ _ _ _ _ (is_inside at.Else-not-in_code) (fits at.Else-runs_past) _ (no_frame at.In-None) b (sym all.0 ∙ c.in_err-store_all-in-None.was)))

pub returns-in_ok-store_all-in-Some : goal.returns-in_ok-store_all-in-Some
returns-in_ok-store_all-in-Some c =
    let at = goal.at.returns-in_ok-store_all-in-Some c in
    let all = framed_pushes at.After-store_all in
    rw (sp_is _ _ _ _ c.pushed-size.ensures c.bytes.ensures c.minus-sp.ensures, all.1, c.in_ok-store_all-in-Some.was)
    (sym (pushed_all _ _ _ _ _ _ (is_inside at.Else-not-in_code) (fits at.Else-runs_past) _ (a_frame at.In-Some) (sym all.0 ∙ c.in_ok-store_all-in-Some.was)))

pub returns-in_ok-store_all-in-None : goal.returns-in_ok-store_all-in-None
returns-in_ok-store_all-in-None c =
    let at = goal.at.returns-in_ok-store_all-in-None c in
    let all = lone_push at.After-store_all-in-None in
    rw (sp_is _ _ _ _ c.pushed-size.ensures c.bytes.ensures c.minus-sp.ensures, all.1, c.in_ok-store_all-in-None.was)
    (sym (pushed_all _ _ _ _ _ _ (is_inside at.Else-not-in_code) (fits at.Else-runs_past) _ (no_frame at.In-None) (sym all.0 ∙ c.in_ok-store_all-in-None.was)))
