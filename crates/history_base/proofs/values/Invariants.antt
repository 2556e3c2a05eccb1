use mathlib.Core.Path.{◌≡◌}
use Prim.Native.Nat.{◌-◌, ◌≤◌}
use lib.IntN.{pos}
use lib.ListN.{take}
use Rattle.limits.specs.Limits.{items_most}
use Rattle.lists.specs.Lists.{Filled}
use Rattle.history_base.proofs.Placed.{values_of}
use Rattle.history_base.proofs.values.Given as goal

abbrev pub invariant-loop-x : goal.invariant-loop-x
invariant-loop-x l = (l.x ≤ l.n) × Filled (pos 0) items_most l.x l.found × (take l.x l.found ≡ take l.x (values_of l.b l.n))

abbrev pub decreases-loop-x : goal.decreases-loop-x
decreases-loop-x l = l.n - l.x
