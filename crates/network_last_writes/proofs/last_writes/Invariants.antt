use Prim.Native.Nat.{◌≤◌, ◌-◌}
use Rattle.network_layout.specs.InWords.{network_in}
use Rattle.network_last_writes.specs.LastWrites.{LastWrites}
use Rattle.network_last_writes.proofs.last_writes.Given as goal

abbrev pub invariant-loop-j : goal.invariant-loop-j
invariant-loop-j l = (l.j ≤ l.made) × LastWrites (network_in l.state) l.j l.table
