-- `put_left` meets its contract: the writer cannot but succeed. Assumes nothing.
use Rattle.std.proofs.Common.{arith}
use Rattle.processor.specs.Layout.{words_of}
use Rattle.outcome.proofs.RunLaws.{left_put, put_front}
use Rattle.outcome.proofs.put_left.Goals as goal

pub returns : goal.returns
returns c =
    let put = left_put (record { state = words_of c.args.state; pages = c.args.pages.now; bytes = c.args.bytes.now; words = c.args.words.now }) c.requires _ (omega arith) _ _ (rw c.into-fields.ensures at c.write.ensures) in
    let both = put_front c.write.result _ _ put in
    rw c.unwrap_or.ensures (record { fits = both.0; text = both.1 })
