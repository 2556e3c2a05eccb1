-- `from_words` reads the epoch, the number of tuples and the eight places.
use Rattle.timestamp.proofs.Plain.{plain_as}
use Rattle.timestamp_words.proofs.Words.{in_law}
use Rattle.timestamp_words.proofs.from_words.Goals as goal

pub returns : goal.returns
returns c =
    let e = c.epoch_in in
    plain_as
    (in_law c.args.w.now e.result c.word.result c.tuples_in.result
    e.ensures c.word.ensures c.tuples_in.ensures)
    c.plain.ensures
