use mathlib.Core.Path.{◌≡◌}
use Prim.Native.Nat.{◌-◌, ◌*◌, ◌≤◌}
use lib.ListN.{length, take}
use Rattle.timestamp.specs.Value.{stamp_of}
use Rattle.script_notation.specs.Print.{tuples_text, Put}
use Rattle.script_printing.proofs.tuples.Given as goal

abbrev pub invariant-loop-i : goal.invariant-loop-i
invariant-loop-i l = (l.i ≤ l.n) × (length l.out ≡ length l.initial.out) × Put (22 * l.i) l.initial.out l.out l.at l.end (tuples_text 32 (take l.i (stamp_of l.t).tuples))

abbrev pub decreases-loop-i : goal.decreases-loop-i
decreases-loop-i l = l.n - l.i
