use mathlib.Core.Path.{◌≡◌}
use Prim.Native.Nat.{◌+◌, ◌≤◌}
use lib.ListN.{drop}
use Rattle.timestamp_order.specs.Parting.{shared}
use Rattle.timestamp_words.specs.InWords.{stamp_in}
use Rattle.timestamp_comparison.proofs.compare_lists.Given as goal

abbrev pub invariant-loop-i : goal.invariant-loop-i
invariant-loop-i l = (l.i ≤ l.n) × (shared (stamp_in l.a).tuples (stamp_in l.b).tuples ≡ l.i + shared (drop l.i (stamp_in l.a).tuples) (drop l.i (stamp_in l.b).tuples))
