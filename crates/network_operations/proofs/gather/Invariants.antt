use Rattle.std.proofs.Common.{◌≡◌, ◌≤◌, ◌-◌, length, take}
use Rattle.network_operations.specs.Gathered.{gathered_most, Gathers}
use Rattle.network_operations.proofs.gather.Given as goal

-- the first i operations are gathered
abbrev pub invariant-loop-i : goal.invariant-loop-i
invariant-loop-i l = Gathers (take gathered_most (take l.i l.operations)) l.gathered

abbrev pub decreases-loop-i : goal.decreases-loop-i
decreases-loop-i l = length l.operations - l.i
