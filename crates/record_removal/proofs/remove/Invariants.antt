use mathlib.Core.Path.{◌≡◌}
use Prim.Native.Nat.{◌≤◌}
use lib.ListN.{length}
use Rattle.record_removal.proofs.RemovalLaws.{StaySoFar}
use Rattle.record_removal.proofs.remove.Given as goal

abbrev pub invariant-loop-k : goal.invariant-loop-k
invariant-loop-k l = (l.k ≤ l.made) × (length l.history ≡ length l.initial.history) × StaySoFar l.names l.initial.history l.made l.history l.k l.kept
