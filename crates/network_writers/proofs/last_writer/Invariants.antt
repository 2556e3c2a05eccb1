use Prim.Native.Nat.{◌≤◌, ◌-◌}
use Rattle.network_layout.specs.InWords.{network_in}
use Rattle.network_writers.specs.Writers.{LastSoFar, is_writer}
use Rattle.network_writers.proofs.last_writer.Given as goal

abbrev pub invariant-loop-j : goal.invariant-loop-j
invariant-loop-j l = (l.j ≤ l.made) × LastSoFar (network_in l.state) (is_writer (network_in l.state) l.reader l.item) l.j l.best

abbrev pub decreases-loop-j : goal.decreases-loop-j
decreases-loop-j l = l.made - l.j
