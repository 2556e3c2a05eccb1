-- The last tuple of a timestamp, and what a tuple more and a higher own count give away from their edges, and at them.
use mathlib.Core.Path.{◌≡◌, refl, ap, ◌∙◌}
use mathlib.Core.List.{List, [], ◌∷◌, ◌++◌}
use Prim.Native.Nat.{ℕ, suc, ◌+◌, ◌-◌, ◌≤◌, ◌<◌}
use native.Mathlib.Omega.{arith}
use lib.ListN.{length, get_or}
use borrow.Author.Tests.{lt-ltb, le-ltb}
use Rattle.timestamp_order.specs.Timestamp.{Pair, Stamp, no_pair, room, greatest, appended, appended_or_same, last_pair, own_count, raised_last, raised, raised_or_same}

-- the last tuple stands at the last place
pub last_at : (ps : List Pair) → last_pair ps ≡ get_or ps (length ps - 1) no_pair
last_at [] = refl
last_at (x ∷ []) = refl
last_at (x ∷ (y ∷ ys)) =
    let e : suc (suc (length ys) - 1) ≡ suc (suc (length ys)) - 1 = omega arith in
    last_at (y ∷ ys) ∙ ap (λ (k : ℕ). get_or (x ∷ (y ∷ ys)) k no_pair) e

pub last_snoc : (ps : List Pair) (p : Pair) → last_pair (ps ++ (p ∷ [])) ≡ p
last_snoc [] p = refl
last_snoc (x ∷ []) p = refl
last_snoc (x ∷ (y ∷ ys)) p = last_snoc (y ∷ ys) p

pub raised_snoc : (ps : List Pair) (p : Pair) → raised_last (ps ++ (p ∷ [])) ≡ ps ++ (record { site = p.site; count = p.count + 1 } ∷ [])
raised_snoc [] p = refl
raised_snoc (x ∷ []) p = refl
raised_snoc (x ∷ (y ∷ ys)) p = ap {B = List Pair} (λ l. x ∷ l) (raised_snoc (y ∷ ys) p)

-- what the two methods answer away from their edges, and at them
module _ (s : Stamp) (j c : ℕ) where
  pub append_room : length s.tuples < room → appended_or_same s j c ≡ appended s j c
  unfolding appended_or_same
  append_room h = rw (lt-ltb (length s.tuples) room h)

  pub append_full : room ≤ length s.tuples → appended_or_same s j c ≡ s
  unfolding appended_or_same
  append_full h = rw (le-ltb (length s.tuples) room h)

module _ (s : Stamp) where
  pub raise_room : own_count s < greatest → raised_or_same s ≡ raised s
  unfolding raised_or_same
  raise_room h = rw (lt-ltb (own_count s) greatest h)

  pub raise_full : greatest ≤ own_count s → raised_or_same s ≡ s
  unfolding raised_or_same
  raise_full h = rw (le-ltb (own_count s) greatest h)
