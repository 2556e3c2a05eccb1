use Prim.Native.Nat.{◌≤◌, ◌-◌}
use Rattle.timestamp_order.specs.Order.{rank}
use Rattle.timestamp_words.specs.InWords.{stamp_shaped}
use Rattle.site.specs.InWords.{site_size}
use Rattle.network_line_shape.proofs.Walk.{Passed}
use Rattle.network_shape.proofs.sites_shaped.Given as goal

abbrev pub invariant-loop-i : goal.invariant-loop-i
invariant-loop-i l = (l.i ≤ l.n) × Passed (stamp_shaped (rank l.places)) site_size l.n l.w l.i

abbrev pub decreases-loop-i : goal.decreases-loop-i
decreases-loop-i l = l.n - l.i
