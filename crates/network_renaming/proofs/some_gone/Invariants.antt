use mathlib.Core.Path.{◌≡◌}
use Prim.Native.Nat.{◌-◌}
use lib.ListN.{drop}
use Rattle.lists.specs.Lists.{any}
use Rattle.protocol.specs.Network.{lines_most}
use Rattle.network_layout.specs.InWords.{network_in}
use Rattle.network_renaming.specs.Renamed.{line_gone}
use Rattle.network_renaming.proofs.some_gone.Given as goal

abbrev pub invariant-loop-k : goal.invariant-loop-k
invariant-loop-k l = any (line_gone l.names) (network_in l.state).lines ≡ any (line_gone l.names) (drop l.k (network_in l.state).lines)
