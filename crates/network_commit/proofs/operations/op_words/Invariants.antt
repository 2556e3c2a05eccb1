use mathlib.Core.Path.{◌≡◌}
use Prim.Native.Nat.{◌≤◌, ◌-◌}
use lib.ListN.{length, take}
use Rattle.site_operations.specs.InWords.{ops_in}
use Rattle.protocol.specs.Steps.{ops_of}
use Rattle.network_commit.proofs.operations.op_words.Given as goal

abbrev pub invariant-loop-i : goal.invariant-loop-i
invariant-loop-i l = (l.i ≤ length l.kinds) × (ops_in l.i l.out ≡ take l.i (ops_of l.kinds l.items l.values))

abbrev pub decreases-loop-i : goal.decreases-loop-i
decreases-loop-i l = length l.kinds - l.i
