-- `epoch_at` reads the epoch of the site's timestamp.
use mathlib.Core.Path.{ap}
use Rattle.timestamp_order.specs.Timestamp.{Stamp}
use Rattle.network_round_causes.proofs.epoch_at.Goals as goal

pub returns : goal.returns
returns c = ap (λ (t : Stamp). t.epoch) c.site_stamp-t.ensures.means
