-- Plain values: made of eight places, kept by the three ways to a new timestamp, and equal where they mean the same.
use mathlib.Core.Path.{◌≡◌, refl, sym, ap, ap₂, ◌∙◌}
use mathlib.Core.List.{List, [], ◌∷◌, ◌++◌, map, map-append}
use Prim.Native.Nat.{ℕ, suc, ◌+◌, ◌-◌, ◌≤◌, ◌<◌}
use native.Mathlib.Omega.{arith}
use native.Mathlib.Numerals.{add-one}
use lib.ListN.{length, take, set, get_or, length-map}
use lib.Seq.{take-suc, take-suc-set, length-take-le}
use Rattle.lists.specs.Lists.{spell}
use Rattle.lists.proofs.Lists.{map_take, map_set, spelled}
use Rattle.lists.proofs.Filled.{filled_set, filled_spell, filled_count, filled_places}
use Rattle.timestamp_order.specs.Timestamp.{Pair, Stamp, no_pair, room, greatest, with_epoch, appended_or_same, last_pair, own_count, raised_last, raised, raised_or_same}
use Rattle.timestamp_order.proofs.Timestamp.{append_room, append_full, raised_snoc, raise_room, raise_full}
use Rattle.timestamp.specs.declared.Tuple.{Tuple}
use Rattle.timestamp.specs.declared.Epoch.{Epoch}
use Rattle.timestamp.specs.declared.Timestamp.{Timestamp}
use Rattle.timestamp.specs.Value.{pair_of, stamp_of, Plain, PlainValue}
use Rattle.timestamp.proofs.Value.{pairs, no_tuple, own_law}

-- ---- equal timestamps are equal values
tuple_of : Pair → Tuple
tuple_of p = record { site = p.site; count = record { 0 = p.count } }

back : (l : List Tuple) → map tuple_of (map pair_of l) ≡ l
unfolding tuple_of
back [] = refl
back (x ∷ l) = ap {B = List Tuple} (λ r. x ∷ r) (back l)

pub plain_same : (a b : Timestamp) → Plain a → Plain b → stamp_of a ≡ stamp_of b → a ≡ b
plain_same a b p q e =
    let firsts : take a.len (map pair_of a.tuples) ≡ take b.len (map pair_of b.tuples) = sym (map_take pair_of a.len a.tuples) ∙ ap (λ (s : Stamp). s.tuples) e ∙ map_take pair_of b.len b.tuples in
    let len = filled_count no_pair room a.len b.len (map pair_of a.tuples) (map pair_of b.tuples) p q firsts in
    let places = sym (back a.tuples) ∙ ap (map tuple_of) (filled_places no_pair room a.len b.len (map pair_of a.tuples) (map pair_of b.tuples) p q firsts) ∙ back b.tuples in
    λ i. record { epoch = record { 0 = (e i).epoch }; len = len i; tuples = places i }

pub plain_as : {s s' : Stamp} {t : Timestamp} → s ≡ s' → PlainValue s t → PlainValue s' t
plain_as e v = record { means = v.means ∙ e; plain = v.plain }

-- ---- eight places written out
pub plain_places : (e : Epoch) (n : ℕ) (l : List Tuple) (ps : List Pair) → n ≡ length ps → length ps ≤ room → map pair_of l ≡ spell no_pair 0 room ps
    → PlainValue (record { epoch = e.0; tuples = ps }) (record { epoch = e; len = n; tuples = l })
plain_places e n l ps p h q =
    record {
      means = ap (λ (x : List Pair). record { epoch = e.0; tuples = x }) (map_take pair_of n l ∙ ap₂ (λ (k : ℕ) (x : List Pair). take k x) p q ∙ spelled no_pair room ps h);
      plain = rw (p, q) (filled_spell no_pair room ps h);
    }

-- ---- a new timestamp of a plain value
abbrev more : Tuple → Tuple
more x = record { site = x.site; count = record { 0 = x.count.0 + 1 } }

raise_list : (l : List Tuple) (k : ℕ) → k < length l → pairs (suc k) (set l k (more (get_or l k no_tuple))) ≡ raised_last (pairs (suc k) l)
raise_list l k h =
    let x = get_or l k no_tuple in
    ap (map pair_of) (take-suc-set l k (more x) h)
    ∙ map-append pair_of (take k l) (more x ∷ [])
    ∙ sym (raised_snoc (pairs k l) (pair_of x))
    ∙ ap raised_last (sym (map-append pair_of (take k l) (x ∷ [])) ∙ ap (map pair_of) (sym (take-suc l k no_tuple h)))

module _ (s : Stamp) (t : Timestamp) (v : PlainValue s t) where
  eight : length t.tuples ≡ room
  eight = sym (length-map t.tuples pair_of) ∙ v.plain.sized

  pub plain_size : length s.tuples ≡ t.len
  plain_size =
      ap (λ (x : Stamp). length x.tuples) (sym v.means) ∙ length-map (take t.len t.tuples) pair_of ∙ length-take-le t.len t.tuples (omega (arith, eight, v.plain.fits))

  -- the values afterwards: from the tuples at the places to the timestamp
  with_tuples : (len : ℕ) (l : List Tuple) (f : List Pair → List Pair) → pairs len l ≡ f (pairs t.len t.tuples) → stamp_of (record { epoch = t.epoch; len = len; tuples = l }) ≡ record { epoch = s.epoch; tuples = f s.tuples }
  with_tuples len l f e = ap (λ (ps : List Pair). record { epoch = t.epoch.0; tuples = ps }) e ∙ ap (λ (x : Stamp). record { epoch = x.epoch; tuples = f x.tuples }) v.means

  set_plain : (count i : ℕ) (x : Tuple) → t.len ≤ count → count ≤ room → i < count → Plain (record { epoch = t.epoch; len = count; tuples = set t.tuples i x })
  set_plain count i x h g b = rw map_set (filled_set no_pair room t.len count i (map pair_of t.tuples) (pair_of x) v.plain h g b)

  pub epoch_law : (e : Epoch) → PlainValue (with_epoch s e.0) (record { epoch = e; len = t.len; tuples = t.tuples })
  epoch_law e = record { means = ap (λ (x : Stamp). with_epoch x e.0) v.means; plain = v.plain }

  pub append_law : (x : Tuple) → t.len < room → PlainValue (appended_or_same s x.site x.count.0) (record { epoch = t.epoch; len = t.len + 1; tuples = set t.tuples t.len x })
  append_law x h =
      record {
        means =
            with_tuples (t.len + 1) (set t.tuples t.len x) (λ ps. ps ++ (pair_of x ∷ []))
            (ap (λ (k : ℕ). pairs k (set t.tuples t.len x)) (add-one t.len)
            ∙ ap (map pair_of) (take-suc-set t.tuples t.len x (omega (arith, eight)))
            ∙ map-append pair_of (take t.len t.tuples) (x ∷ []))
            ∙ sym (append_room s x.site x.count.0 (omega (arith, plain_size)));
        plain = set_plain (t.len + 1) t.len x (omega arith) (omega arith) (omega arith);
      }

  pub append_full_law : (j c : ℕ) → room ≤ t.len → PlainValue (appended_or_same s j c) t
  append_full_law j c h = plain_as (sym (append_full s j c (omega (arith, plain_size)))) v

  -- its last tuple
  module _ (some : t.len ≡ 0 → ⊥) where
    abbrev last : Tuple
    last = get_or t.tuples (t.len - 1) no_tuple

    own_count_lem : last.count.0 ≡ own_count s
    own_count_lem =
        ap (λ (p : Pair). p.count) (own_law t.tuples t.len eight t.len (omega (arith, v.plain.fits)) some) ∙ ap own_count v.means

    pub raise_law : last.count.0 < greatest → PlainValue (raised_or_same s) (record { epoch = t.epoch; len = t.len; tuples = set t.tuples (t.len - 1) (more last) })
    raise_law below =
        let k = t.len - 1 in
        let l = set t.tuples k (more last) in
        let e : t.len ≡ suc k = omega arith in
        record {
          means =
              with_tuples t.len l raised_last (ap (λ (i : ℕ). pairs i l) e ∙ raise_list t.tuples k (omega (arith, eight, v.plain.fits)) ∙ ap (λ (i : ℕ). raised_last (pairs i t.tuples)) (sym e))
              ∙ sym (raise_room s (omega (arith, own_count_lem)));
          plain = set_plain t.len k (more last) (omega arith) v.plain.fits (omega arith);
        }

    pub raise_full_law : greatest ≤ last.count.0 → PlainValue (raised_or_same s) t
    raise_full_law h = plain_as (sym (raise_full s (omega (arith, own_count_lem)))) v

  -- no tuple to raise
  pub raise_none_law : t.len ≡ 0 → PlainValue (raised_or_same s) t
  raise_none_law z =
      let nil : pairs t.len t.tuples ≡ [] = ap (λ (i : ℕ). pairs i t.tuples) z in
      let none : s.tuples ≡ [] = ap (λ (x : Stamp). x.tuples) (sym v.means) ∙ nil in
      let same : s ≡ raised s = ap (λ (ps : List Pair). record { epoch = s.epoch; tuples = ps }) (none ∙ ap raised_last (sym none)) in
      plain_as (same ∙ sym (raise_room s (omega (arith, ap (λ (ps : List Pair). (last_pair ps).count) none)))) v
