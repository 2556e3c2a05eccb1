use mathlib.Core.Path.{◌≡◌}
use mathlib.Core.Bool.{false}
use Prim.Native.Nat.{◌≤◌, ◌-◌}
use Rattle.limits.specs.Limits.{sites_most}
use Rattle.lists.specs.Lists.{some_below}
use Rattle.protocol.specs.Steps.{lacks_arrived}
use Rattle.network_layout.specs.InWords.{network_in}
use Rattle.network_schedule_causes.proofs.lacks_arrived.Given as goal

abbrev pub invariant-loop-p : goal.invariant-loop-p
invariant-loop-p l = (l.p ≤ sites_most) × (some_below (lacks_arrived (network_in l.state) l.j) l.p ≡ false)

abbrev pub decreases-loop-p : goal.decreases-loop-p
decreases-loop-p l = sites_most - l.p
