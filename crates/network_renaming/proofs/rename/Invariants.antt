use Prim.Native.Nat.{◌-◌}
use Rattle.protocol.specs.Network.{lines_most}
use Rattle.network_renaming.proofs.RenamedLaws.{RenamedBelow}
use Rattle.network_renaming.proofs.rename.Given as goal

abbrev pub invariant-loop-k : goal.invariant-loop-k
invariant-loop-k l = RenamedBelow l.names l.initial.state l.state l.k
