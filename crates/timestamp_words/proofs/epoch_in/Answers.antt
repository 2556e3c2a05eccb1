-- `epoch_in` reads the first word.
use Rattle.timestamp_words.specs.InWords.{stamp_in}
use Rattle.timestamp_words.proofs.epoch_in.Goals as goal

pub returns : goal.returns
unfolding stamp_in
returns c = c.word.ensures
