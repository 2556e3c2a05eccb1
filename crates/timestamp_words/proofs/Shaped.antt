-- The tuples that a timestamp's words hold; and the test that a site made it, from what is found to the answer.
use mathlib.Core.Path.{◌≡◌, refl, sym, ap, ap₂, ◌∙◌}
use mathlib.Core.Bool.{Bool, true, false, ◌&&◌}
use mathlib.Core.List.{List}
use Prim.Native.Nat.{ℕ, zero, suc, ◌+◌, ◌*◌, ◌-◌, ◌≤◌, ◌<◌, min}
use native.Mathlib.Omega.{arith}
use native.Mathlib.Nat.{not-suc-le-zero}
use lib.ListN.{length, get_or, take, length-take}
use lib.Seq.{get_or-take, length-take-le}
use lib.Dec.{ltb, eqb}
use borrow.Author.Tests.{lt-ltb, le-ltb, le-leb, lt-leb}
use Rattle.timestamp_order.specs.Timestamp.{Pair, no_pair, room, last_pair}
use Rattle.timestamp_words.specs.InWords.{pair_at, pairs_at, tuple_in, pairs_start, pair_size, pair_place, stamp_in, stamp_shaped}
use Rattle.timestamp_order.specs.Made.{rising, made_by}
use Rattle.timestamp_order.proofs.Timestamp.{last_at}

-- ---- the tuples that words hold
pub pairs_length : (w : List ℕ) (at n : ℕ) → length (pairs_at w at n) ≡ n
pairs_length w at zero = refl
pairs_length w at (suc n) = ap suc (pairs_length w (at + pair_size) n)

pub pairs_at_lem : (w : List ℕ) (at n i : ℕ) → i < n → get_or (pairs_at w at n) i no_pair ≡ pair_at w (at + i * pair_size)
pairs_at_lem w at zero i h = absurd (not-suc-le-zero h)
pairs_at_lem w at (suc n) zero h = let e : at ≡ at + 0 * pair_size = omega arith in ap (pair_at w) e
pairs_at_lem w at (suc n) (suc i) h = let e : at + pair_size + i * pair_size ≡ at + suc i * pair_size = omega arith in pairs_at_lem w (at + pair_size) n i (omega arith) ∙ ap (pair_at w) e

-- those of the timestamp: how many, and one of them
module _ (w : List ℕ) where
  pub size_law : length (stamp_in w).tuples ≡ min (get_or w 1 0) room
  unfolding stamp_in
  size_law = length-take (get_or w 1 0) (pairs_at w pairs_start room) ∙ ap (min (get_or w 1 0)) (pairs_length w pairs_start room)

  pub tuple_law : (i : ℕ) → i < length (stamp_in w).tuples → get_or (stamp_in w).tuples i no_pair ≡ tuple_in w i
  unfolding stamp_in
  tuple_law i h = get_or-take (get_or w 1 0) (pairs_at w pairs_start room) i no_pair (omega (arith, size_law))

module _ (w : List ℕ) (n : ℕ) (few : n ≤ room) where
  abbrev held : List Pair
  held = take n (pairs_at w pairs_start room)

  pub held_length : length held ≡ n
  held_length = length-take-le n (pairs_at w pairs_start room) (omega (arith, pairs_length w pairs_start room))

  pub held_site : (i : ℕ) → i < n → (get_or held i no_pair).site ≡ (pair_at w (pair_place i)).site
  held_site i h = ap (λ (p : Pair). p.site) (get_or-take n (pairs_at w pairs_start room) i no_pair h ∙ pairs_at_lem w pairs_start room i (omega arith))

  pub held_own : 0 < n → (last_pair held).site ≡ (pair_at w (pair_place (n - 1))).site
  held_own h =
      ap (λ (p : Pair). p.site) (last_at held)
      ∙ held_site (length held - 1) (omega (arith, held_length))
      ∙ ap (λ (k : ℕ). (pair_at w (pair_place (k - 1))).site) held_length

-- ---- the test, from what is found to the answer
module _ (place : ℕ → ℕ) (j : ℕ) (w : List ℕ) where
  pub shaped_many : room < get_or w 1 0 → false ≡ stamp_shaped place j w
  unfolding stamp_shaped
  shaped_many h = sym (rw (lt-leb (get_or w 1 0) room h))

  module _ (n : ℕ) (is : n ≡ get_or w 1 0) (few : n ≤ room) where
    tuples_are : (stamp_in w).tuples ≡ take n (pairs_at w pairs_start room)
    unfolding stamp_in
    tuples_are = ap (λ (k : ℕ). take k (pairs_at w pairs_start room)) (sym is)

    tuples_size : length (stamp_in w).tuples ≡ n
    tuples_size = ap length tuples_are ∙ held_length w n few

    shaped_is : stamp_shaped place j w ≡ (ltb 0 n && (rising place (take n (pairs_at w pairs_start room)) && eqb (last_pair (take n (pairs_at w pairs_start room))).site j))
    unfolding stamp_shaped made_by
    shaped_is =
        rw (le-leb (get_or w 1 0) room (omega arith))
        (ap₂ (λ (m : ℕ) (ps : List Pair). ltb 0 m && (rising place ps && eqb (last_pair ps).site j)) tuples_size tuples_are)

    pub shaped_none : n ≡ 0 → false ≡ stamp_shaped place j w
    shaped_none z = sym (shaped_is ∙ rw (le-ltb 0 n (omega arith)))

    module _ (some : 0 < n) (r : Bool) (e : r ≡ rising place (take n (pairs_at w pairs_start room))) where
      pub shaped_not_rising : r ≡ false → false ≡ stamp_shaped place j w
      shaped_not_rising f = sym (shaped_is ∙ rw (lt-ltb 0 n some, sym e ∙ f))

      pub shaped_by_site : r ≡ true → (x : ℕ) → x ≡ (pair_at w (pair_place (n - 1))).site → eqb x j ≡ stamp_shaped place j w
      shaped_by_site f x g =
          sym (shaped_is ∙ rw (lt-ltb 0 n some, sym e ∙ f) (ap (λ (s : ℕ). eqb s j) (held_own w n few some ∙ sym g)))
