use mathlib.Core.Path.{◌≡◌}
use mathlib.Core.List.{◌++◌}
use Prim.Native.Nat.{◌≤◌, ◌-◌}
use lib.ListN.{length, take, drop}
use Rattle.c_answers.specs.Answers.{value_words}
use Rattle.c_answers.proofs.put_values.Given as goal

abbrev pub invariant-loop-i : goal.invariant-loop-i
invariant-loop-i l = (l.i ≤ l.n) × (l.n ≡ length l.values) × (length l.initial.w ≡ l.n) × (l.w ≡ take l.i (value_words l.values) ++ drop l.i l.initial.w) × (length l.w ≡ length l.initial.w)

abbrev pub decreases-loop-i : goal.decreases-loop-i
decreases-loop-i l = l.n - l.i
