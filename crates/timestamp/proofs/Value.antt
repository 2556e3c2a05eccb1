-- The tuples that a value holds, as a list: how many they are, one of them, and the last.
use mathlib.Core.Path.{◌≡◌, sym, ap, ◌∙◌}
use mathlib.Core.List.{List, map}
use Prim.Native.Nat.{ℕ, ◌-◌, ◌≤◌, ◌<◌, min}
use native.Mathlib.Omega.{arith}
use lib.ListN.{length, take, get_or, length-map, length-take, get_or-map, get_or-eq_default}
use lib.Seq.{get_or-take}
use Rattle.timestamp.specs.declared.Tuple.{Tuple}
use Rattle.timestamp_order.specs.Timestamp.{Pair, no_pair, room, last_pair}
use Rattle.timestamp_order.proofs.Timestamp.{last_at}
use Rattle.timestamp.specs.Value.{pair_of}

-- the tuples of the first n places
abbrev pub pairs : ℕ → List Tuple → List Pair
pairs n l = map pair_of (take n l)

abbrev pub no_tuple : Tuple
no_tuple = record { site = 0; count = record { 0 = 0 } }

-- the tuple at a used place
pub tuple_law : (l : List Tuple) (len i : ℕ) → i < len → pair_of (get_or l i no_tuple) ≡ get_or (pairs len l) i no_pair
tuple_law l len i h = sym (get_or-map pair_of (take len l) i no_tuple ∙ ap pair_of (get_or-take len l i no_tuple h))

-- ---- eight places, of which `len` or all are used
module _ (l : List Tuple) (len : ℕ) (eight : length l ≡ 8) where
  pub size_law : length (pairs len l) ≡ min len room
  size_law = length-map (take len l) pair_of ∙ length-take len l ∙ ap (min len) eight

  pub past_law : (i : ℕ) → min len room ≤ i → no_pair ≡ get_or (pairs len l) i no_pair
  past_law i h = sym (get_or-eq_default (pairs len l) no_pair {n = i} (omega (arith, size_law)))

  pub own_law : (n : ℕ) → n ≡ min len room → (n ≡ 0 → ⊥) → pair_of (get_or l (n - 1) no_tuple) ≡ last_pair (pairs len l)
  own_law n f z =
      let g : length (pairs len l) - 1 ≡ n - 1 = omega (arith, size_law) in
      tuple_law l len (n - 1) (omega arith) ∙ ap (λ (k : ℕ). get_or (pairs len l) k no_pair) (sym g) ∙ sym (last_at (pairs len l))

  pub no_own_law : min len room ≡ 0 → no_pair ≡ last_pair (pairs len l)
  no_own_law z = past_law (length (pairs len l) - 1) (omega arith) ∙ sym (last_at (pairs len l))
