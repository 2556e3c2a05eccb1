use Prim.Native.Nat.{◌≤◌, ◌-◌}
use Rattle.network_layout.specs.InWords.{network_in}
use Rattle.network_point.specs.Point.{EarliestSoFar}
use Rattle.network_point.proofs.earliest.Given as goal

abbrev pub invariant-loop-i : goal.invariant-loop-i
invariant-loop-i l = (l.i ≤ l.sites) × EarliestSoFar (network_in l.state) l.i l.best
