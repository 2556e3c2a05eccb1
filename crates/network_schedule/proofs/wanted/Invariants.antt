use Prim.Native.Nat.{◌≤◌, ◌-◌}
use Rattle.lists.specs.Lists.{keep}
use Rattle.site_operations.specs.InWords.{ops_in}
use Rattle.network_layout.specs.InWords.{network_in}
use Rattle.protocol.specs.Steps.{wanted_at}
use Rattle.network_schedule.specs.Wanted.{Laid}
use Rattle.network_schedule.proofs.wanted.Given as goal

abbrev pub invariant-loop-i : goal.invariant-loop-i
invariant-loop-i l = (l.i ≤ l.n) × Laid l.i l.count l.out (keep (wanted_at (network_in l.state).items l.j) (ops_in l.i l.ops))

abbrev pub decreases-loop-i : goal.decreases-loop-i
decreases-loop-i l = l.n - l.i
