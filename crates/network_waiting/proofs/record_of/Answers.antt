-- `record_of` reads the record noted.
use mathlib.Core.Path.{ap, ◌∙◌}
use Rattle.network_waiting.specs.Places.{earliest_of}
use Rattle.network_waiting.proofs.record_of.Goals as goal

pub returns : goal.returns
returns c = c.wide-2.ensures ∙ ap (earliest_of c.args.writers.now) c.wide.ensures
