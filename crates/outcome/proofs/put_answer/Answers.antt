-- `put_answer` meets its contract. Assumes nothing.
use Rattle.std.proofs.Common.{refl, arith}
use Rattle.outcome.specs.Outcome.{answer_word, answer_numbers, answer_line}
use Rattle.outcome.proofs.LineLaws.{line_front}
use Rattle.outcome.proofs.put_answer.Goals as goal

pub returns : goal.returns
unfolding answer_line
returns c =
    let both = line_front answer_word (answer_numbers c.args.count c.into-report.result) _ _ 97 refl (omega arith) c.put_line.ensures.put in
    record { fits = both.0; line = rw (← c.into-report.ensures) both.1 }
