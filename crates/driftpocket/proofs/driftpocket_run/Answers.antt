-- `driftpocket_run` meets its contract: it makes the tests where it runs nothing, and a run makes them itself; what it writes is what the
-- definition lays out. Assumes nothing.
use Rattle.std.proofs.Common.{sym, ◌∙◌}
use Rattle.driftpocket.proofs.Laws.{written_words, crossed_never, crossed_short, crossed_run}
use Rattle.driftpocket.proofs.driftpocket_run.Goals as goal

pub returns-in_default : goal.returns-in_default
returns-in_default c =
    let none = sym c.state_of.ensures ∙ c.in_default.is in
    c.refuse.ensures _ _ ∙ rw c.check-tested.ensures (crossed_never _ _ _ _ _ none)

pub returns-then-report-lt-REPORT : goal.returns-then-report-lt-REPORT
returns-then-report-lt-REPORT c =
    let whole = sym c.state_of.ensures ∙ c.in-Some.is in
    c.refuse-then-report-lt-REPORT.ensures _ _
    ∙ rw (c.check-tested-then-report-lt-REPORT.ensures, c.in_range.ensures) (crossed_short _ _ _ _ _ _ whole c.if-report-lt-REPORT.true)

pub returns : goal.returns
returns c =
    let whole = sym c.state_of.ensures ∙ c.in-Some.is in
    rw (
      ← crossed_run _ _ _ _ _ _ whole c.if-report-lt-REPORT.false,
      c.number.ensures,
      c.write_report.ensures,
      c.copy.ensures.out_after,
      c.from.ensures,
      written_words _ _ c.run-replayed.result.state whole,
      ← c.run-replayed.ensures,
    )
