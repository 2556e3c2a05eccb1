-- `put_trailer` copies sixteen bytes over sixteen.
use Rattle.history_file.specs.File.{trailer}
use Rattle.history_units.proofs.put_trailer.Goals as goal

pub returns : goal.returns
unfolding trailer
returns c = cc
