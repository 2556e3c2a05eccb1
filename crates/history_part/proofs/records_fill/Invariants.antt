use mathlib.Core.Path.{◌≡◌}
use Prim.Native.Nat.{◌≤◌, ◌-◌}
use lib.ListN.{length, drop}
use Rattle.timestamp_order.specs.Order.{rank}
use Rattle.history_file.specs.Reading.{records_fill}
use Rattle.history_part.proofs.records_fill.Given as goal

abbrev pub invariant-loop-i : goal.invariant-loop-i
invariant-loop-i l = (l.i ≤ l.n) × (l.at ≤ length l.b) × (records_fill (rank l.places) l.sites l.items l.n l.b ≡ records_fill (rank l.places) l.sites l.items (l.n - l.i) (drop l.at l.b))

abbrev pub decreases-loop-i : goal.decreases-loop-i
decreases-loop-i l = l.n - l.i
