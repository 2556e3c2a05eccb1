use mathlib.Core.Path.{◌≡◌}
use Prim.Native.Nat.{◌*◌, ◌≤◌, ◌-◌}
use lib.ListN.{length}
use Rattle.limits.specs.Limits.{sites_most, held_most}
use Rattle.protocol.specs.Waiting.{into_below}
use Rattle.network_layout.specs.InWords.{network_in}
use Rattle.network_hearing.proofs.held_into.Given as goal

abbrev pub invariant-loop-from : goal.invariant-loop-from
invariant-loop-from l = (l.from ≤ sites_most) × (l.held ≤ held_most * l.from) × (l.held ≡ length (into_below (network_in l.state) l.j l.from))

abbrev pub decreases-loop-from : goal.decreases-loop-from
decreases-loop-from l = sites_most - l.from
