use mathlib.Core.Path.{◌≡◌}
use Prim.Native.Nat.{◌+◌, ◌-◌, ◌≤◌}
use lib.ListN.{length}
use Rattle.limits.specs.Limits.{sites_most}
use Rattle.placement_order.specs.Tables.{filled}
use Rattle.placement_order.proofs.Filled.{filled_from}
use Rattle.placement_order.proofs.by_number.Given as goal

abbrev pub invariant-loop-k : goal.invariant-loop-k
invariant-loop-k l = (l.k ≤ sites_most) × (length l.table ≡ sites_most) × (l.count ≤ l.from + l.k) × (filled l.from l.initial.table ≡ filled_from l.k l.table l.count)
