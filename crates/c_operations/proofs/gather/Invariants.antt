use mathlib.Core.List.{map}
use Prim.Native.Nat.{◌≤◌, ◌-◌}
use lib.ListN.{length, take}
use Rattle.network_operations.specs.Gathered.{gathered_most, Gathers}
use Rattle.c_operations.specs.Operations.{operation_of}
use Rattle.c_operations.proofs.gather.Given as goal

abbrev pub invariant-loop-i : goal.invariant-loop-i
invariant-loop-i l = (l.i ≤ length l.operations) × Gathers (take gathered_most (map operation_of (take l.i l.operations))) l.gathered

abbrev pub decreases-loop-i : goal.decreases-loop-i
decreases-loop-i l = length l.operations - l.i
