-- Demand 3 for page lists (docs/RULES.md, "Two runs side by side"): more memory never alters an answer already given. Assumes nothing.
use Rattle.std.specs.Prelude.{ℕ, ◌≤◌, ◌≡◌, Bool, true, false, List, length, eqb, Ok}
use Rattle.pages.specs.Pages.{listing}
use Rattle.memory.specs.Extends.{HoldsPages, Untouched}
use Rattle.answers.specs.Answer.{report_of}
use Rattle.processor.specs.Prog.{Step}
use Rattle.answers.specs.declared.answer.Answer.{Answer}
use Rattle.processor.specs.declared.state.State.{State}
use Rattle.perform.specs.Exec.{InstructionSet}
use Rattle.replay.specs.Run.{Input, with_pages, Run, run, after}

-- the answer is a page fault: its vector is 14
abbrev pub is_page_fault : Answer → Bool
is_page_fault answer = eqb (report_of answer).vector 14

-- Registers and old bytes are the same, and the added pages hold what was lent, `lent₂`: the papers' terms, by address (`HoldsPages`
-- matches pages by their entries, wherever they stand).
pub record SameMemory (pages₁ pages₂ lent₂ : List ℕ) (state₁ : State) (bytes₁ : List ℕ) (state₂ : State) (bytes₂ : List ℕ) : Type 0 where
  pub registers : state₂ ≡ state₁
  pub old : HoldsPages pages₁ bytes₁ pages₂ bytes₂
  pub added : Untouched pages₁ pages₂ bytes₂ lent₂

-- the second run ends alike
pub record EndsAlike (pages₁ pages₂ lent₂ : List ℕ) (r₁ r₂ : Run) : Type 0 where
  pub count : r₂.count ≡ r₁.count
  pub answer : r₂.answer ≡ r₁.answer
  pub memory : SameMemory pages₁ pages₂ lent₂ r₁.state r₁.bytes r₂.state r₂.bytes

-- the second completes at least as many, and after that many it has the same; `then₂` is the second after the first's count
pub record GoesAsFar (pages₁ pages₂ lent₂ : List ℕ) (r₁ r₂ : Run) (then₂ : Step) : Type 0 where
  pub count : r₁.count ≤ r₂.count
  pub memory : SameMemory pages₁ pages₂ lent₂ r₁.state r₁.bytes then₂.state then₂.bytes

-- Any instruction set, any state, any words; two valid page lists, the second holding every page of the first. What the first run has
-- handed back is what stood after its count of single operations (`CountTied`).
abbrev pub MorePages : Type 0
MorePages = (set : InstructionSet) (given : Input) (pages₂ bytes₂ : List ℕ)
    → listing given.pages (length given.bytes) ≡ Ok tt → listing pages₂ (length bytes₂) ≡ Ok tt → HoldsPages given.pages given.bytes pages₂ bytes₂
    → let more : Input = with_pages given pages₂ bytes₂ in
    let r₁ : Run = run set given in
    let r₂ : Run = run set more in
    (is_page_fault r₁.answer ≡ false → EndsAlike given.pages pages₂ bytes₂ r₁ r₂)
    × (is_page_fault r₁.answer ≡ true → GoesAsFar given.pages pages₂ bytes₂ r₁ r₂ (after set more r₁.count))
