-- `is_full` compares what the line holds with the most.
use mathlib.Core.Path.{ap}
use lib.Dec.{leb}
use Rattle.limits.specs.Limits.{held_most}
use Rattle.network_round_causes.proofs.is_full.Goals as goal

pub returns : goal.returns
returns c = ap (leb held_most) c.line_held.ensures.0
