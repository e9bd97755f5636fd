-- `put_field` meets its contract: the two pieces stand one behind the other. Assumes nothing.
use Prim.Native.Nat.{◌+◌, ◌≤◌}
use mathlib.Core.Path.{sym}
use mathlib.Core.List.{◌∷◌, []}
use native.Mathlib.Omega.{arith}
use lib.ListN.{length}
use Rattle.numbers.proofs.Laws.{laid_if_lem, laid_turn}
use Rattle.texts.specs.Digits.{number, tab, letter_x, hex}
use Rattle.texts.proofs.put.put_field.Goals as goal

pub returns : goal.returns
unfolding number
returns c =
    let room : c.args.at + 2 ≤ length c.args.text.now = omega (arith, c.requires) in
    rw (c.put_digits.ensures, c.copy.ensures.out_after, laid_if_lem _ _ (tab ∷ letter_x ∷ []) room)
    (sym (laid_turn _ _ (tab ∷ letter_x ∷ []) (hex 16 _) room))
