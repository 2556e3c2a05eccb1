-- `count_at_most` compares the own count of the site's timestamp.
use mathlib.Core.Path.{ap, ◌∙◌}
use lib.Dec.{leb}
use Rattle.timestamp_order.specs.Timestamp.{Pair, Stamp, last_pair, greatest}
use Rattle.network_sites.proofs.count_at_most.Goals as goal

pub returns : goal.returns
returns c = ap (λ (p : Pair). leb greatest p.count) (c.own-own.ensures ∙ ap (λ (s : Stamp). last_pair s.tuples) c.site_stamp.ensures.means)
