use mathlib.Core.Path.{◌≡◌}
use Prim.Native.Nat.{◌-◌, ◌≤◌}
use lib.ListN.{length, drop}
use Rattle.lists.specs.Lists.{up_to}
use Rattle.history_file.specs.Bytes.{same}
use Rattle.history_file.specs.File.{is_numbers}
use Rattle.history_table.proofs.are_numbers.Given as goal

abbrev pub invariant-loop-i : goal.invariant-loop-i
invariant-loop-i l = (l.i ≤ length l.b) × (is_numbers l.b ≡ same (drop l.i l.b) (up_to l.i (length l.b - l.i)))

abbrev pub decreases-loop-i : goal.decreases-loop-i
decreases-loop-i l = length l.b - l.i
