-- Demand 3 for the permission bits (docs/RULES.md, "Two runs side by side"): more rights never alter an answer already given. Assumes nothing.
use Rattle.std.specs.Prelude.{ℕ, ◌+◌, ◌≤◌, ◌≡◌, Bool, true, false, not, ◌&&◌, eqb}
use Rattle.answers.specs.Answer.{report_of}
use Rattle.processor.specs.Prog.{Step}
use Rattle.processor.specs.State.{usable, permitted}
use Rattle.answers.specs.declared.answer.Answer.{Answer}
use Rattle.processor.specs.declared.state.State.{State}
use Rattle.instructions.specs.Operation.{decoded, is_wrss}
use Rattle.instructions.specs.Permission.{without_write}
use Rattle.processor.specs.Layout.{with_cet}
use Rattle.perform.specs.Exec.{InstructionSet}
use Rattle.replay.specs.Run.{Input, listed, with_state, Run, run, after}
use Rattle.instructions.specs.declared.instruction.Instruction.{Instruction}

-- a CET register with bit 1 set where this is asked
abbrev pub switched_on : Bool → ℕ → ℕ
switched_on true register = without_write register + 2
switched_on false register = register

-- the state with the permission bit of U_CET, of S_CET or of both switched on
unfoldable pub granted : Bool → Bool → State → State
granted user supervisor s = with_cet s (switched_on user s.ucet) (switched_on supervisor s.scet)

-- the answer is #UD: its vector is 6
abbrev pub is_ud : Answer → Bool
is_ud answer = eqb (report_of answer).vector 6

-- A WRSS was not permitted (the papers' term): outside mode 0 and while enabled, it gave #UD, and WR_SHSTK_EN of this CPL is
-- clear. A #UD of what precedes the instruction (`precedes`) counts too; the set that is built has none there. `i` is the instruction
-- that the run ended at; the run's state is the one from before it.
unfoldable pub not_permitted : Run → Instruction → Bool
not_permitted r i = is_ud r.answer && (is_wrss (decoded i.code) && (usable r.state && not (permitted r.state)))

-- the second run is the first but for those bits
pub record AlikeButBits (user supervisor : Bool) (r₁ r₂ : Run) : Type 0 where
  pub count : r₂.count ≡ r₁.count
  pub answer : r₂.answer ≡ r₁.answer
  pub bytes : r₂.bytes ≡ r₁.bytes
  pub registers : r₂.state ≡ granted user supervisor r₁.state

-- the second completes at least as many, and all before that WRSS is alike but for those bits
pub record AlikeBefore (user supervisor : Bool) (r₁ r₂ : Run) (then₂ : Step) : Type 0 where
  pub count : r₁.count ≤ r₂.count
  pub bytes : then₂.bytes ≡ r₁.bytes
  pub registers : then₂.state ≡ granted user supervisor r₁.state

-- Any instruction set, any input, valid or not.
abbrev pub MoreRights : Type 0
MoreRights = (set : InstructionSet) (user supervisor : Bool) (given : Input)
    → let more : Input = with_state given (granted user supervisor given.state) in
    let r₁ : Run = run set given in
    let r₂ : Run = run set more in
    (not_permitted r₁ (listed given r₁.count) ≡ false → AlikeButBits user supervisor r₁ r₂)
    × (not_permitted r₁ (listed given r₁.count) ≡ true → AlikeBefore user supervisor r₁ r₂ (after set more r₁.count))
