use Prim.Native.Nat.{◌≤◌, ◌-◌}
use lib.ListN.{take}
use Rattle.history_file.proofs.Held.{ops_of}
use Rattle.history_record.specs.Placed.{Placed}
use Rattle.history_record.proofs.operations.Given as goal

abbrev pub invariant-loop-i : goal.invariant-loop-i
invariant-loop-i l = (l.i ≤ l.n) × Placed (take l.i (ops_of l.b l.n)) l.kinds l.items l.values

abbrev pub decreases-loop-i : goal.decreases-loop-i
decreases-loop-i l = l.n - l.i
