use mathlib.Core.Path.{◌≡◌}
use Prim.Native.Nat.{◌-◌, ◌*◌, ◌≤◌, min}
use lib.ListN.{length, take}
use Rattle.script_notation.specs.Print.{values_text, Put}
use Rattle.script_printing.proofs.values.Given as goal

abbrev pub invariant-loop-i : goal.invariant-loop-i
invariant-loop-i l = (l.i ≤ l.n) × (l.n ≡ min l.count 8) × (length l.out ≡ length l.initial.out) × Put (12 * l.i) l.initial.out l.out l.at l.end (values_text (take l.i l.list))

abbrev pub decreases-loop-i : goal.decreases-loop-i
decreases-loop-i l = l.n - l.i
