use mathlib.Core.Path.{◌≡◌}
use mathlib.Core.List.{List}
use Prim.Native.Nat.{ℕ, ◌*◌, ◌≤◌, ◌-◌}
use lib.ListN.{get_or, drop}
use Rattle.timestamp_order.specs.Order.{rank}
use Rattle.timestamp_order.specs.Made.{rising as risingOf}
use Rattle.history_file.specs.Bytes.{unit_size}
use Rattle.history_file.proofs.Units.{pairs_of}
use Rattle.history_tuple_validity.proofs.rising.Given as goal

pub record Inside (b places : List ℕ) (n last i : ℕ) : Type 0 where
  pub some : 1 ≤ i
  pub last_is : last ≡ rank places (get_or b ((i - 1) * unit_size) 0)
  pub so_far : risingOf (rank places) (pairs_of b n) ≡ risingOf (rank places) (drop (i - 1) (pairs_of b n))

abbrev pub invariant-loop-i : goal.invariant-loop-i
invariant-loop-i l = Inside l.b l.places l.n l.last l.i

abbrev pub decreases-loop-i : goal.decreases-loop-i
decreases-loop-i l = l.n - l.i
