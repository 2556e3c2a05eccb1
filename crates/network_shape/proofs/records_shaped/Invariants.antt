use Prim.Native.Nat.{◌≤◌, ◌-◌}
use Rattle.timestamp_order.specs.Order.{rank}
use Rattle.records.specs.InWords.{record_size}
use Rattle.network_shape.specs.Tested.{record_test}
use Rattle.network_line_shape.proofs.Walk.{Passed}
use Rattle.network_shape.proofs.records_shaped.Given as goal

abbrev pub invariant-loop-k : goal.invariant-loop-k
invariant-loop-k l = (l.k ≤ l.made) × Passed (λ _. record_test (rank l.places) l.sites l.items) record_size l.made l.w l.k

abbrev pub decreases-loop-k : goal.decreases-loop-k
decreases-loop-k l = l.made - l.k
