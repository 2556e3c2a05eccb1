use mathlib.Core.Path.{◌≡◌}
use mathlib.Core.Bool.{false, ◌&&◌}
use Prim.Native.Nat.{◌≤◌, ◌-◌}
use lib.ListN.{length}
use lib.Dec.{leb}
use Rattle.placement.specs.Masks.{bit}
use Rattle.limits.specs.Limits.{held_most}
use Rattle.protocol.specs.Network.{line_at}
use Rattle.lists.specs.Lists.{some_below}
use Rattle.network_layout.specs.InWords.{network_in}
use Rattle.network_sending.proofs.some_line_full.Given as goal

abbrev pub invariant-loop-c : goal.invariant-loop-c
invariant-loop-c l = some_below (λ k. bit l.mask k && leb held_most (length (line_at (network_in l.state) l.i k).messages)) l.c ≡ false
