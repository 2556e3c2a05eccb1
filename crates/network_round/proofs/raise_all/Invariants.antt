use Prim.Native.Nat.{◌-◌}
use Rattle.lists.specs.Lists.{up_to}
use Rattle.protocol.specs.Round.{walked, one_by_one, epoch_calls, raise_calls}
use Rattle.network_layout.specs.InWords.{network_in}
use Rattle.network_hearing.specs.Walked.{Left}
use Rattle.network_round.proofs.raise_all.Given as goal

abbrev pub invariant-loop-i : goal.invariant-loop-i
invariant-loop-i l = Left (walked (network_in l.initial.state) (raise_calls l.to (network_in l.initial.state))) l.state (one_by_one (epoch_calls l.to) (network_in l.state) (up_to l.i (l.sites - l.i)))

abbrev pub decreases-loop-i : goal.decreases-loop-i
decreases-loop-i l = l.sites - l.i
