use Rattle.protocol.specs.Round.{walked, schedule_calls, schedule_all}
use Rattle.network_layout.specs.InWords.{network_in}
use Rattle.network_hearing.specs.Walked.{Left}
use Rattle.network_hearing.proofs.schedule_all.Given as goal

abbrev pub invariant-loop-left : goal.invariant-loop-left
invariant-loop-left l = Left (walked (network_in l.initial.state) (schedule_all (network_in l.initial.state) l.j)) l.state (schedule_calls l.left (network_in l.state) l.j)

abbrev pub decreases-loop-left : goal.decreases-loop-left
decreases-loop-left l = l.left
