use mathlib.Core.Path.{◌≡◌}
use Prim.Native.Nat.{◌≤◌, ◌-◌}
use lib.IntN.{pos}
use lib.ListN.{take}
use Rattle.lists.specs.Lists.{Filled}
use Rattle.site_operations.specs.Operations.{values_read}
use Rattle.site_operations.specs.InWords.{ops_in}
use Rattle.limits.specs.Limits.{ops_most}
use Rattle.network_commit.proofs.operations.values_read.Given as goal

abbrev pub invariant-loop-i : goal.invariant-loop-i
invariant-loop-i l = (l.i ≤ l.n) × (l.count ≤ l.i) × (take l.count l.values ≡ values_read (ops_in l.i l.ops)) × Filled (pos 0) ops_most l.count l.values

abbrev pub decreases-loop-i : goal.decreases-loop-i
decreases-loop-i l = l.n - l.i
