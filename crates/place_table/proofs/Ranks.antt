-- A place by a table: the entry at the number where there is one, past the table the number.
use mathlib.Core.Path.{◌≡◌, refl}
use mathlib.Core.List.{List, [], ◌∷◌}
use Prim.Native.Nat.{ℕ, zero, suc, ◌≤◌, ◌<◌}
use native.Mathlib.Nat.{not-suc-le-zero, le_of_suc-le-suc}
use lib.ListN.{length, get_or, get_or-eq_default}
use Rattle.timestamp_order.specs.Order.{rank}

-- an element inside is the same, whatever stands past the end
same_inside : (xs : List ℕ) (k d e : ℕ) → k < length xs → get_or xs k d ≡ get_or xs k e
same_inside [] k d e h = absurd (not-suc-le-zero h)
same_inside (x ∷ xs) zero d e h = refl
same_inside (x ∷ xs) (suc k) d e h = same_inside xs k d e (le_of_suc-le-suc h)

pub rank_inside : (places : List ℕ) (k : ℕ) → k < length places → get_or places k 0 ≡ rank places k
rank_inside places k h = same_inside places k 0 k h

pub rank_past : (places : List ℕ) (k : ℕ) → length places ≤ k → rank places k ≡ k
rank_past places k h = get_or-eq_default places k {n = k} h
