-- A timestamp in words: what is read from them, what is written, and that one undoes the other.
use mathlib.Core.Path.{◌≡◌, refl, sym, ap, ap₂, ◌∙◌}
use mathlib.Core.List.{List, ◌∷◌, map}
use Prim.Native.Nat.{ℕ, zero, suc, ◌+◌, ◌*◌, ◌≤◌}
use native.Mathlib.Omega.{arith}
use lib.ListN.{length, get_or, take}
use lib.Seq.{get_or-take}
use Rattle.words.specs.Words.{overlaid}
use Rattle.lists.proofs.Lists.{spelled, map_take}
use Rattle.words.proofs.Walks.{overlaid_same}
use Rattle.timestamp.specs.declared.Tuple.{Tuple}
use Rattle.timestamp.specs.declared.Epoch.{Epoch}
use Rattle.timestamp_order.specs.Timestamp.{Pair, Stamp, no_pair, room}
use Rattle.timestamp.specs.Value.{pair_of, stamp_of}
use Rattle.timestamp_words.specs.InWords.{pairs_at, stamp_in, stamp_words, stamp_size}

-- ---- read
pub in_law : (w : List ℕ) (e : Epoch) (len : ℕ) (l : List Tuple) → e.0 ≡ (stamp_in w).epoch → len ≡ get_or w 1 0 → map pair_of l ≡ pairs_at w 2 room
    → stamp_of (record { epoch = e; len = len; tuples = l }) ≡ stamp_in w
unfolding stamp_in
in_law w e len l p q r =
    ap₂ (λ (a : ℕ) (ps : List Pair). record { epoch = a; tuples = ps }) p (map_take pair_of len l ∙ ap₂ (λ (n : ℕ) (ps : List Pair). take n ps) q r)

-- only the first 18 words count
pairs_front : (w : List ℕ) (at n k : ℕ) → at + 2 * n ≤ k → pairs_at (take k w) at n ≡ pairs_at w at n
pairs_front w at zero k h = refl
pairs_front w at (suc n) k h =
    ap₂ {C = List Pair} (λ p ps. p ∷ ps)
    (ap₂ (λ (a b : ℕ). record { site = a; count = b }) (get_or-take k w at 0 (omega arith)) (get_or-take k w (at + 1) 0 (omega arith)))
    (pairs_front w (at + 2) n k (omega arith))

pub stamp_front : (w : List ℕ) → stamp_in (take stamp_size w) ≡ stamp_in w
unfolding stamp_in
stamp_front w =
    ap₂ (λ (a : ℕ) (ps : List Pair). record { epoch = a; tuples = ps }) (get_or-take stamp_size w 0 0 (omega arith))
    (ap₂ (λ (n : ℕ) (ps : List Pair). take n ps) (get_or-take stamp_size w 1 0 (omega arith)) (pairs_front w 2 room stamp_size (omega arith)))

-- ---- written
pub words_length : (s : Stamp) → length (stamp_words s) ≡ stamp_size
unfolding stamp_words
words_length s = refl

-- what was written is read back
pub words_back : (s : Stamp) → length s.tuples ≤ room → stamp_in (stamp_words s) ≡ s
unfolding stamp_in stamp_words
words_back s h = ap (λ (ps : List Pair). record { epoch = s.epoch; tuples = ps }) (spelled no_pair room s.tuples h)

-- also from the slice that it was written to
pub written_back : (w : List ℕ) (s : Stamp) → length w ≡ stamp_size → length s.tuples ≤ room → stamp_in (overlaid w (stamp_words s)) ≡ s
written_back w s size h = ap stamp_in (overlaid_same w (stamp_words s) (words_length s ∙ sym size)) ∙ words_back s h
