use mathlib.Core.Path.{◌≡◌}
use mathlib.Core.Bool.{Bool}
use Prim.Native.Nat.{◌-◌}
use lib.ListN.{length, drop}
use lib.Dec.{leb}
use Rattle.limits.specs.Limits.{held_most}
use Rattle.lists.specs.Lists.{any}
use Rattle.lines.specs.Lines.{Line}
use Rattle.protocol.specs.Network.{lines_most}
use Rattle.network_layout.specs.InWords.{network_in}
use Rattle.network_round_causes.proofs.some_line_full.Given as goal

abbrev pub full : Line → Bool
full l = leb held_most (length l.messages)

abbrev pub invariant-loop-k : goal.invariant-loop-k
invariant-loop-k l = any full (network_in l.state).lines ≡ any full (drop l.k (network_in l.state).lines)

abbrev pub decreases-loop-k : goal.decreases-loop-k
decreases-loop-k l = lines_most - l.k
