-- `value_at` meets its contract: all bytes of the value are there. Assumes nothing.
use Rattle.std.proofs.Common.{ℕ, ◌≡◌, ◌∙◌, refl, sym, Option, Some, None}
use Rattle.std.specs.Option.{IsSome}
use Rattle.numbers.proofs.Laws.{number_drop, held_number, held_there}
use Rattle.sheet_write.proofs.values.value_at.Goals as goal

some_there : (o : Option ℕ) → (o ≡ None → ⊥) → IsSome o
some_there None there = absurd (there refl)
some_there (Some v) there = refl

pub unwrap-requires : goal.unwrap-requires
unwrap-requires c = some_there _ (λ e. held_there _ _ 8 c.requires (sym c.load.ensures ∙ e))

pub returns : goal.returns
returns c = held_number _ _ 8 c.requires _ (sym c.load.ensures ∙ c.unwrap.ensures) ∙ sym (number_drop _ _ _)
