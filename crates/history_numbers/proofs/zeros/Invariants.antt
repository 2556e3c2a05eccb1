use mathlib.Core.Path.{◌≡◌}
use Prim.Native.Nat.{ℕ, ◌≤◌, ◌-◌}
use lib.ListN.{length, drop}
use lib.Dec.{eqb}
use Rattle.lists.specs.Lists.{every}
use Rattle.history_numbers.proofs.zeros.Given as goal

abbrev pub invariant-loop-i : goal.invariant-loop-i
invariant-loop-i l = (l.i ≤ length l.b) × (every (λ (x : ℕ). eqb x 0) l.b ≡ every (λ (x : ℕ). eqb x 0) (drop l.i l.b))

abbrev pub decreases-loop-i : goal.decreases-loop-i
decreases-loop-i l = length l.b - l.i
