use Prim.Native.Nat.{◌-◌}
use Rattle.protocol.specs.Network.{lines_most}
use Rattle.network_shape.specs.Tested.{Skipped}
use Rattle.network_shape.proofs.next_used.Given as goal

abbrev pub invariant-loop-i : goal.invariant-loop-i
invariant-loop-i l = Skipped l.w l.k l.i

abbrev pub decreases-loop-i : goal.decreases-loop-i
decreases-loop-i l = lines_most - l.i
