-- `refuse` meets its contract: a line, and nothing of a sheet. Assumes nothing.
use Rattle.std.proofs.Common.{[], ◌∷◌, refl, ◌∙◌, append-nil, arith}
use Rattle.outcome.specs.Outcome.{refused_word, refused_line}
use Rattle.outcome.proofs.LineLaws.{line_front}
use Rattle.outcome.proofs.refuse.Goals as goal

pub returns : goal.returns
unfolding refused_line
returns c = λ sheet.
    let front = line_front refused_word (c.args.refusal ∷ c.args.row ∷ []) _ _ 44 refl (omega arith) c.put_line.ensures.put in
    record { in_line = front.0; in_sheet = omega arith; whole_is = append-nil _ ∙ front.1 }
