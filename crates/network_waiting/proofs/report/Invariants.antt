use mathlib.Core.Path.{◌≡◌}
use Prim.Native.Nat.{◌+◌, ◌-◌, ◌≤◌}
use lib.ListN.{take}
use Rattle.limits.specs.Limits.{items_most}
use Rattle.lists.specs.Lists.{Filled}
use Rattle.network_waiting.proofs.ReportLaws.{in_place}
use Rattle.network_waiting.proofs.report.Given as goal

abbrev pub invariant-loop-k : goal.invariant-loop-k
invariant-loop-k l =
    (l.k ≤ l.initial.k) × (l.count + l.k ≤ l.initial.k) × (take l.count l.items ≡ in_place l.state l.writers l.site l.k (l.initial.k - l.k)) × Filled 0 items_most l.count l.items

abbrev pub decreases-loop-k : goal.decreases-loop-k
decreases-loop-k l = l.k
