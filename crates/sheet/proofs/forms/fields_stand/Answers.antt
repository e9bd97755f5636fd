-- `fields_stand` meets its contract: it tests one field behind the other. Assumes nothing.
use Rattle.std.proofs.Common.{rules, tests, arith, ◌≡◌, ◌*◌, refl}
use Rattle.std.proofs.lemmas.Iterator.{YieldsList-from_range}
use Rattle.std.proofs.lemmas.Iterator.Search.{all_from_yields_List}
use Rattle.texts.specs.Digits.{tab}
use Rattle.texts.specs.Fields.{number_form, begins}
use mathlib.Core.List.{◌∷◌}
use lib.ListN.{drop}
use Rattle.sheet.proofs.Turns.{fields_one_by_one, rest_whole}
use Rattle.sheet.proofs.forms.fields_stand.Goals as goal

pub returns : goal.returns
returns c =
    rw (← fields_one_by_one c.args.n 0 c.args.text.now)
    (all_from_yields_List (λ i. begins (tab ∷ number_form) (drop (18 * i) c.args.text.now)) _ _ c.all.result c.all.ensures.ran (YieldsList-from_range 0 c.args.n c.args.n refl (omega arith)) (λ x b q k. search (rules, tests, rest_whole)))
