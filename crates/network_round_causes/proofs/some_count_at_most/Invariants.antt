use mathlib.Core.Path.{◌≡◌}
use mathlib.Core.Bool.{false}
use Prim.Native.Nat.{◌≤◌, ◌-◌}
use Rattle.lists.specs.Lists.{some_below}
use Rattle.protocol.specs.Steps.{count_at_most}
use Rattle.network_layout.specs.InWords.{network_in}
use Rattle.network_round_causes.proofs.some_count_at_most.Given as goal

abbrev pub invariant-loop-i : goal.invariant-loop-i
invariant-loop-i l = (l.i ≤ l.sites) × (some_below (count_at_most (network_in l.state)) l.i ≡ false)

abbrev pub decreases-loop-i : goal.decreases-loop-i
decreases-loop-i l = l.sites - l.i
