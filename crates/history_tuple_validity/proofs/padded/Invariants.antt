use mathlib.Core.Path.{◌≡◌}
use Prim.Native.Nat.{◌≤◌, ◌-◌}
use lib.ListN.{drop}
use Rattle.words.specs.Words.{chunks}
use Rattle.lists.specs.Lists.{every}
use Rattle.history_file.specs.Bytes.{unit_size, padded as paddedOf}
use Rattle.history_tuple_validity.proofs.padded.Given as goal

abbrev pub invariant-loop-i : goal.invariant-loop-i
invariant-loop-i l = (l.i ≤ l.n) × (every (paddedOf l.from) (chunks unit_size l.n l.b) ≡ every (paddedOf l.from) (drop l.i (chunks unit_size l.n l.b)))

abbrev pub decreases-loop-i : goal.decreases-loop-i
decreases-loop-i l = l.n - l.i
