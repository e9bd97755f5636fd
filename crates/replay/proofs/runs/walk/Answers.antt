-- `walk` meets its contract: no byte is added or lost, so that addresses lead where they led. Assumes nothing.
use Rattle.std.proofs.Common.{◌≡◌, sym, ◌∙◌, arith}
use Rattle.accesses.specs.Access.{lookup_of}
use Rattle.instructions.specs.Instruction.{instruction_at}
use Rattle.memory.proofs.Laws.{lookup_kept}
use Rattle.processor.specs.Outcomes.{step_of}
use Rattle.perform.specs.Codes.{codes}
use Rattle.perform.specs.Exec.{perform}
use Rattle.replay.proofs.RunLaws.{goes_on, ends, at_end}
use Rattle.replay.proofs.runs.walk.Goals.{After-perform-outcome}
use Rattle.replay.proofs.runs.walk.Goals as goal

-- what the instruction gave, with the bytes that it left
performed : (c : After-perform-outcome) →
    perform codes (lookup_of c.args.pages.now c.args.bytes.now) (instruction_at c.args.words.now c.loop-k.k) c.loop-k.state c.loop-k.bytes
    ≡ step_of c.perform-outcome.result c.perform-outcome.new.bytes
performed c =
    rw (← lookup_kept c.args.pages.now c.args.bytes.now c.loop-k.bytes c.loop-k.auto.bytes, ← c.nth.ensures) (sym c.perform-outcome.ensures)

pub loop-k-preserved : goal.loop-k-preserved
loop-k-preserved c =
    c.loop-k.invariant ∙ goes_on _ _ _ _ _ _ _ c.loop-k-test.true _ (performed (goal.at.loop-k-preserved c).After-perform-outcome) c.in-Completed.is

pub returns-in_default : goal.returns-in_default
returns-in_default c =
    sym (c.loop-k.invariant ∙ ends _ _ _ _ _ _ _ c.loop-k-test.true _ (performed (goal.at.returns-in_default c).After-perform-outcome) c.in_default.not-Completed)

pub returns : goal.returns
returns c = sym (c.loop-k.invariant ∙ at_end _ _ _ _ _ _ _ (omega arith))
