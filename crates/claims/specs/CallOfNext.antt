-- A relative CALL with displacement 0, which calls the next instruction (the papers: the next line), does not use the shadow stack
-- (docs/RULES.md, "The operations", near CALL). Assumes nothing.
use Rattle.std.specs.Prelude.{ℕ, ◌≡◌, Bool, false, Option, Some, List, length}
use Rattle.memory.specs.Extends.{Places, cell, is_listed, is_kind}
use Rattle.pages.specs.Pages.{Lookup, ordinary}
use Rattle.pages.specs.declared.pages.Spot.{Spot}
use Rattle.processor.specs.Layout.{with_ssp}
use Rattle.processor.specs.Prog.{Step}
use Rattle.processor.specs.declared.state.State.{State}
use Rattle.instructions.specs.Operation.{decoded}
use Rattle.perform.specs.Exec.{perform}
use Rattle.replay.specs.Run.{Input, built}
use Rattle.instructions.specs.declared.instruction.Instruction.{Instruction}
use Rattle.instructions.specs.declared.operation.Operation.TheVariants.{Call}
use Rattle.instructions.specs.declared.operation.Target.TheVariants.{Relative}

-- such a call, by its words
abbrev pub CallsNext : Instruction → Type 0
CallsNext i = (decoded i.code ≡ Some (Call Relative)) × (i.a ≡ 0)

-- ---- two memories that differ in shadow pages

-- an address leads to an ordinary page
abbrev pub is_ordinary : Option Spot → Bool
is_ordinary = is_kind ordinary

-- The pages have the same addresses, and the same ones are ordinary. Where they stand in a list and what they hold is free; a shadow page of
-- one may be of the other shadow kind in the other, and none is missing.
abbrev pub SameListed : Lookup → Lookup → Type 0
SameListed look₁ look₂ = (address : ℕ) → is_listed (look₁ address) ≡ is_listed (look₂ address)

abbrev pub SameOrdinary : Lookup → Lookup → Type 0
SameOrdinary look₁ look₂ = (address : ℕ) → is_ordinary (look₁ address) ≡ is_ordinary (look₂ address)

-- ---- the claims

-- Over two such memories, and from two states that differ at most in SSP: the answer is the same, and so are the registers but for SSP, which
-- stays.
abbrev pub SameCallOfNext : Type 0
SameCallOfNext = (given : Input) (look₁ look₂ : Lookup) → SameListed look₁ look₂ → SameOrdinary look₁ look₂
    → (i : Instruction) (s : State) (bytes₁ bytes₂ : List ℕ) (ssp : ℕ) → CallsNext i
    → let r₁ : Step = perform (built given) look₁ i s bytes₁ in
    let r₂ : Step = perform (built given) look₂ i (with_ssp s ssp) bytes₂ in
    (r₂.answer ≡ r₁.answer) × (r₂.state ≡ with_ssp r₁.state ssp)

-- And no byte changes but on ordinary pages; a page list leads no two addresses to one byte (`Places`, shown by `lookup_places`).
abbrev pub CallOfNextUntouched : Type 0
CallOfNextUntouched = (given : Input) (look : Lookup) (i : Instruction) (s : State) (bytes : List ℕ) → Places look (length bytes) → CallsNext i
    → (address : ℕ) → is_ordinary (look address) ≡ false → cell look (perform (built given) look i s bytes).bytes address ≡ cell look bytes address
