use Prim.Native.Nat.{◌-◌}
use Rattle.limits.specs.Limits.{sites_most}
use Rattle.lists.specs.Lists.{up_to}
use Rattle.protocol.specs.Round.{walked, one_by_one, line_calls, deliver_calls}
use Rattle.network_layout.specs.InWords.{network_in}
use Rattle.network_hearing.specs.Walked.{Left}
use Rattle.network_hearing.proofs.deliver_all.Given as goal

abbrev pub invariant-loop-p : goal.invariant-loop-p
invariant-loop-p l = Left (walked (network_in l.initial.state) (deliver_calls (network_in l.initial.state) l.j)) l.state (one_by_one (line_calls l.j) (network_in l.state) (up_to l.p (sites_most - l.p)))

abbrev pub decreases-loop-p : goal.decreases-loop-p
decreases-loop-p l = sites_most - l.p
