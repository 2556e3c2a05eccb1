use mathlib.Core.Path.{◌≡◌}
use Prim.Native.Nat.{◌≤◌, ◌-◌}
use lib.IntN.{pos}
use lib.ListN.{length, take}
use Rattle.lists.specs.Lists.{padded}
use Rattle.limits.specs.Limits.{items_most}
use Rattle.site_operations.specs.InWords.{table_in}
use Rattle.network_lookup.proofs.values.Given as goal

abbrev pub invariant-loop-i : goal.invariant-loop-i
invariant-loop-i l = (l.i ≤ l.n) × (length l.out ≡ items_most) × (l.out ≡ padded items_most (pos 0) (take l.i (table_in l.w)))

abbrev pub decreases-loop-i : goal.decreases-loop-i
decreases-loop-i l = l.n - l.i
