use Prim.Native.Nat.{◌-◌}
use Rattle.network_waiting.specs.Places.{Between}
use Rattle.network_waiting.proofs.place_in.Given as goal

abbrev pub invariant-loop-range : goal.invariant-loop-range
invariant-loop-range l = Between l.items l.state l.writers l.k l.range.low l.range.high

abbrev pub decreases-loop-range : goal.decreases-loop-range
decreases-loop-range l = l.range.high - l.range.low
