use Prim.Native.Nat.{◌-◌}
use lib.ListN.{drop}
use Rattle.protocol.specs.Round.{walked, one_by_one, site_calls, sites_in_order, hear_calls}
use Rattle.network_layout.specs.InWords.{network_in}
use Rattle.network_hearing.specs.Walked.{Left}
use Rattle.network_round.proofs.hear_all.Given as goal

abbrev pub invariant-loop-k : goal.invariant-loop-k
invariant-loop-k l = Left (walked (network_in l.initial.state) (hear_calls (network_in l.initial.state))) l.state (one_by_one site_calls (network_in l.state) (drop l.k (sites_in_order (network_in l.initial.state))))

abbrev pub decreases-loop-k : goal.decreases-loop-k
decreases-loop-k l = l.sites - l.k
