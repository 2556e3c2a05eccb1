use mathlib.Core.Path.{◌≡◌}
use mathlib.Core.List.{List}
use Prim.Native.Nat.{ℕ, ◌≤◌, ◌-◌}
use lib.ListN.{take, drop}
use Rattle.timestamp_order.specs.Timestamp.{room}
use Rattle.timestamp_order.specs.Order.{rank}
use Rattle.timestamp_words.specs.InWords.{pair_at, pairs_at, pairs_start, pair_place}
use Rattle.timestamp_order.specs.Made.{rising}
use Rattle.timestamp_words.proofs.rising.Given as goal

pub record Inside (w places : List ℕ) (n last i : ℕ) : Type 0 where
  pub some : 1 ≤ i
  pub last_is : last ≡ rank places (pair_at w (pair_place (i - 1))).site
  pub so_far : rising (rank places) (take n (pairs_at w pairs_start room)) ≡ rising (rank places) (drop (i - 1) (take n (pairs_at w pairs_start room)))

abbrev pub invariant-loop-i : goal.invariant-loop-i
invariant-loop-i l = Inside l.w l.places l.n l.last l.i
