use mathlib.Core.Path.{◌≡◌}
use Prim.Native.Nat.{◌-◌, ◌≤◌}
use lib.ListN.{length, drop}
use Rattle.lists.specs.Lists.{every, up_to}
use Rattle.history_table.proofs.TableLaws.{once}
use Rattle.history_table.proofs.each_once.Given as goal

abbrev pub invariant-loop-k : goal.invariant-loop-k
invariant-loop-k l = (l.k ≤ length l.b) × (every (once l.b) (up_to 0 (length l.b)) ≡ every (once l.b) (drop l.k (up_to 0 (length l.b))))

abbrev pub decreases-loop-k : goal.decreases-loop-k
decreases-loop-k l = length l.b - l.k
