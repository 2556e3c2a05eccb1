use Prim.Native.Nat.{◌-◌}
use lib.ListN.{replicate}
use Rattle.protocol.specs.Calls.{deliver}
use Rattle.protocol.specs.Round.{walked, line_calls}
use Rattle.network_layout.specs.InWords.{network_in}
use Rattle.network_hearing.specs.Walked.{Left}
use Rattle.network_hearing.proofs.deliver_line.Given as goal

abbrev pub invariant-loop-left : goal.invariant-loop-left
invariant-loop-left l = Left (walked (network_in l.initial.state) (line_calls l.j (network_in l.initial.state) l.p)) l.state (replicate l.left (deliver l.p l.j))

abbrev pub decreases-loop-left : goal.decreases-loop-left
decreases-loop-left l = l.left
