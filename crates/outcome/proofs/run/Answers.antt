-- `run` meets its contract: what is left of a run is not refused, so that its sheet is written. Assumes nothing.
use Rattle.std.proofs.Common.{◌≡◌, length, rules}
use Rattle.replay.specs.Run.{run_of}
use Rattle.outcome.proofs.RunLaws.{left_passes, left_words}
use Rattle.outcome.proofs.run.Goals as goal

pub put_left-sheet-requires : goal.put_left-sheet-requires
put_left-sheet-requires c =
    let same : length c.run-replayed.new.bytes ≡ length c.args.bytes.now = search rules in
    left_passes _ _ _ _ c.requires (run_of c.run-replayed.result c.run-replayed.new.bytes) c.run-replayed.ensures c.run-replayed.new.bytes _ same
    (left_words c.args.words.now c.done_words-done.result c.run-replayed.result.count c.done_words-done.ensures.1)
