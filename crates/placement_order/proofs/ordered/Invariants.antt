use Prim.Native.Nat.{◌-◌}
use Rattle.limits.specs.Limits.{sites_most}
use Rattle.placement_order.specs.Tables.{line_in}
use Rattle.placement_order.proofs.Order.{Going, Left}
use Rattle.placement_order.proofs.ordered.Given as goal

abbrev pub invariant-loop-count : goal.invariant-loop-count
invariant-loop-count l = Going (line_in l.lines) l.table l.count × Left l.lines l.table l.left
