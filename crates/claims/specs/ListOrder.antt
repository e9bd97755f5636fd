-- The order of a page list has no meaning of its own (docs/RULES.md, "Pages"). Assumes nothing.
use Rattle.std.specs.Prelude.{ℕ, ◌≡◌, List, length, Ok}
use Rattle.pages.specs.Pages.{listing}
use Rattle.memory.specs.Extends.{HoldsPages}
use Rattle.perform.specs.Exec.{InstructionSet}
use Rattle.replay.specs.Run.{Input, with_pages, Run, run}

-- two runs over the same pages in another order end alike: count, answer, registers, and each page's bytes
pub record SameEnd (pages₁ pages₂ : List ℕ) (r₁ r₂ : Run) : Type 0 where
  pub count : r₂.count ≡ r₁.count
  pub answer : r₂.answer ≡ r₁.answer
  pub registers : r₂.state ≡ r₁.state
  pub bytes : HoldsPages pages₁ r₁.bytes pages₂ r₂.bytes

-- Any instruction set, any state, any words; two valid lists, each holding every page of the other. Here a page fault is alike too, with
-- the address that it names.
abbrev pub OrderFree : Type 0
OrderFree = (set : InstructionSet) (given : Input) (pages₂ bytes₂ : List ℕ)
    → listing given.pages (length given.bytes) ≡ Ok tt
    → listing pages₂ (length bytes₂) ≡ Ok tt
    → HoldsPages given.pages given.bytes pages₂ bytes₂
    → HoldsPages pages₂ bytes₂ given.pages given.bytes
    → SameEnd given.pages pages₂ (run set given) (run set (with_pages given pages₂ bytes₂))
