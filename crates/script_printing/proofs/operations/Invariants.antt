use mathlib.Core.Path.{◌≡◌}
use Prim.Native.Nat.{◌-◌, ◌*◌, ◌≤◌, min}
use lib.ListN.{length}
use Rattle.script_notation.specs.Parse.{first_operations}
use Rattle.script_notation.specs.Print.{ops_text, Put}
use Rattle.script_printing.proofs.operations.Given as goal

abbrev pub invariant-loop-i : goal.invariant-loop-i
invariant-loop-i l = (l.i ≤ l.n) × (l.n ≡ min l.count 8) × (length l.out ≡ length l.initial.out) × Put (24 * l.i) l.initial.out l.out l.at l.end (ops_text (first_operations l.i l.kinds l.items l.values))

abbrev pub decreases-loop-i : goal.decreases-loop-i
decreases-loop-i l = l.n - l.i
