use mathlib.Core.Path.{◌≡◌}
use Prim.Native.Nat.{◌≤◌, ◌-◌}
use lib.ListN.{drop}
use Rattle.words.specs.Words.{chunks}
use Rattle.lists.specs.Lists.{every}
use Rattle.history_file.specs.Bytes.{unit_size}
use Rattle.history_operation_validity.specs.Fits.{op_fit}
use Rattle.history_operation_validity.proofs.operations_fit.Given as goal

abbrev pub invariant-loop-i : goal.invariant-loop-i
invariant-loop-i l = (l.i ≤ l.n) × (every (op_fit l.items) (chunks unit_size l.n l.b) ≡ every (op_fit l.items) (drop l.i (chunks unit_size l.n l.b)))

abbrev pub decreases-loop-i : goal.decreases-loop-i
decreases-loop-i l = l.n - l.i
