use Prim.Native.Nat.{◌≤◌, ◌-◌}
use Rattle.protocol.specs.Collect.{is_past}
use Rattle.network_layout.specs.InWords.{network_in}
use Rattle.network_point.proofs.PointLaws.{NamedBelow}
use Rattle.network_point.proofs.names.Given as goal

abbrev pub invariant-loop-k : goal.invariant-loop-k
invariant-loop-k l = (l.k ≤ l.made) × NamedBelow (is_past (network_in l.state)) l.k l.kept l.names
