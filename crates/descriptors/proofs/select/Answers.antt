-- `select` meets its contract: null, the local table, or the descriptor's 8 bytes. Assumes nothing.
use Rattle.std.proofs.Common.{◌≡◌, ℕ, ap, eq-eqb, ne_eqb, Option, Some, None, Ok}
use Rattle.std.specs.Option.{MatchOption, IsSomeAnd, ok_or}
use Rattle.descriptors.specs.Descriptors.{descriptor_of, found, selected}
use Rattle.descriptors.specs.declared.Descriptor.{Descriptor}
use Rattle.descriptors.specs.declared.Unselected.TheVariants.{Outside}
use Rattle.descriptors.proofs.select.Goals as goal

pub returns-then-selector-eq0 : goal.returns-then-selector-eq0
unfolding selected
returns-then-selector-eq0 c = rw (eq-eqb _ _ c.if-selector-eq0.true)

pub returns-then-selector-eq1 : goal.returns-then-selector-eq1
unfolding selected
returns-then-selector-eq1 c = rw (ne_eqb _ _ c.if-selector-eq0.false, eq-eqb _ _ c.if-selector-eq1.true)

-- what the table gave, as the code makes it an answer
made : (o : Option ℕ) (d : Option Descriptor) → MatchOption o (d ≡ None) (λ n. IsSomeAnd d (λ v. v ≡ descriptor_of n)) → ok_or d Outside ≡ found o
made None d e = rw e
made (Some n) (Some d) e = ap Ok e
made (Some n) None e = absurd e

pub returns : goal.returns
unfolding selected
returns c =
    rw (ne_eqb _ _ c.if-selector-eq0.false, ne_eqb _ _ c.if-selector-eq1.false, ← c.load-number.ensures, c.ok_or.ensures.value) (made _ _ c.map.ensures.cases)
