-- `tuples` counts them in the words of the timestamp.
use mathlib.Core.Path.{ap, ◌∙◌}
use lib.ListN.{length}
use Rattle.timestamp_order.specs.Timestamp.{Stamp}
use Rattle.history_record_bytes.proofs.tuples.Goals as goal

pub returns : goal.returns
returns c = (c.size_in.ensures.0 ∙ ap (λ (s : Stamp). length s.tuples) c.stamp_at.ensures.meant, c.size_in.ensures.1)
