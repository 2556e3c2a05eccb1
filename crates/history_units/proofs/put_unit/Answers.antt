-- `put_unit` copies eight bytes over eight.
use Rattle.history_file.specs.Bytes.{unit}
use Rattle.history_units.proofs.put_unit.Goals as goal

pub returns : goal.returns
unfolding unit
returns c = cc
