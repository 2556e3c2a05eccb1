-- Laws of folding: one operation more of a record, and one base value more.
use mathlib.Core.Path.{◌≡◌, refl, sym, ap, subst, ◌∙◌}
use mathlib.Core.Bool.{Bool, true, false, cond}
use mathlib.Core.List.{List, [], ◌∷◌, ◌++◌, append_assoc, append-nil}
use mathlib.Core.Option
use mathlib.Core.Option.{Option, some, map}
use Prim.Native.Nat.{ℕ, suc, ◌+◌, ◌≤◌, ◌<◌}
use native.Mathlib.Omega.{arith}
use native.Mathlib.Numerals.{add-one}
use lib.IntN.{ℤ, pos}
use lib.ListN.{length, get_or, set, take, drop, length-append, length-drop}
use lib.Seq.{take-suc, take-length, drop-length, drop-cons, length-take-le, get_or-append-add, set_at, set-get_or}
use mir.Val.{to_z}
use mir.Syntax.{w32}
use Rattle.limits.specs.Limits.{items_most, records_most}
use Rattle.lists.specs.Lists.{keep, last_of}
use Rattle.lists.proofs.Every.{and_true}
use Rattle.lists.proofs.Last.{last_more}
use Rattle.site_operations.specs.Operations.{Op, writes_item, touches, last_written, no_op}
use Rattle.site_operations.proofs.Works.{wrote_last}
use Rattle.protocol.specs.Network.{Network, nth_record, place_of}
use Rattle.protocol.specs.Run.{Turn, in_turn, is_up_to, after}
use Rattle.protocol.specs.Collect.{point_of, is_past, folded_base}
use Rattle.protocol.proofs.Values.{last_from}
use Rattle.protocol.proofs.Runs.{commits, after_value, after_length}
use Rattle.origins.specs.Statements.{left_by, LastLeaves}
use Rattle.origins.proofs.Leaves.{last_leaves}
use Rattle.network_layout.specs.Layout.{item_count, base_at}
use Rattle.network_layout.specs.InWords.{network_in, in_range}
use Rattle.network_layout.specs.At.{AtState, HasRecord}
use Rattle.network_layout.proofs.Assembled.{parts_of, range_parts, value_set, value_range}
use Rattle.network_layout.proofs.Performs.{items_count, records_count, values_count}
use Rattle.network_writers.specs.Writers.{writer_of}
use Rattle.network_writers.proofs.WriterLaws.{writer_named, writer_none, last_below}
use Rattle.network_last_writes.specs.LastWrites.{is_folded}
use Rattle.network_fold.specs.Fold.{LastFolded, with_values, folded_at, ItemStep}

-- ---- the last write of a record
module _ (x : ℕ) (os : List Op) where
  -- its value, or another where there is none
  abbrev pub last_or : ℤ → ℤ
  last_or v = Option.get_or (last_written x os) v

  written_more : (o : Op) → cond (writes_item x o) o.value (last_or (pos 0)) ≡ Option.get_or (last_written x (os ++ (o ∷ []))) (pos 0)
  written_more o = go (writes_item x o) ∙ sym (ap (λ (l : Option Op). Option.get_or (map (λ (q : Op). q.value) l) (pos 0)) (last_more (writes_item x) os o))
    where
      go : (b : Bool) → cond b o.value (last_or (pos 0)) ≡ Option.get_or (map (λ (q : Op). q.value) (cond b (some o) (last_of (writes_item x) os))) (pos 0)
      go true = refl
      go false = refl

  written_either : touches x os ≡ true → (u v : ℤ) → last_or u ≡ last_or v
  written_either t u v =
      let is = wrote_last x v os t in
      ap (λ (o : Option ℤ). Option.get_or o u) is ∙ sym (ap (λ (o : Option ℤ). Option.get_or o v) is)

-- one operation more
pub written_next : (x i : ℕ) (os : List Op) → i < length os → let o = get_or os i no_op in cond (writes_item x o) o.value (last_or x (take i os) (pos 0)) ≡ last_or x (take (i + 1) os) (pos 0)
written_next x i os there =
    written_more x (take i os) (get_or os i no_op) ∙ ap (λ (qs : List Op). last_or x qs (pos 0)) (sym (take-suc os i no_op there) ∙ ap (λ (k : ℕ). take k os) (sym (add-one i)))

-- ---- one base value
module _ (n : Network) (x : ℕ) (there : x < length n.base.values) (b : ℕ) (found : LastFolded n x b) where
  abbrev before : ℤ
  before = get_or n.base.values x (pos 0)

  -- what the last in turn of the records that go and write the item leaves of it
  value_left : get_or (folded_base n).values x (pos 0) ≡ left_by n.history x (writer_of b) before
  unfolding LastLeaves
  value_left = last_leaves (place_of n.items) n.history (is_up_to (place_of n.items) (point_of n)) n.base.values x there (writer_of b) found.found

  value_kept : records_most ≤ b → n ≡ folded_at n x
  value_kept high =
      let left : get_or (folded_base n).values x (pos 0) ≡ before = value_left ∙ ap (λ (o : Option ℕ). left_by n.history x o before) (writer_none b high) in
      ap (with_values n) (sym (ap (set n.base.values x) left ∙ set-get_or n.base.values x (pos 0)))

  value_taken : b < records_most → (v : ℤ) → v ≡ last_or x (nth_record n b).ops (pos 0) → with_values n (set n.base.values x v) ≡ folded_at n x
  value_taken low v e =
      let ops = (nth_record n b).ops in
      let left : get_or (folded_base n).values x (pos 0) ≡ last_or x ops before = value_left ∙ ap (λ (o : Option ℕ). left_by n.history x o before) (writer_named b low) in
      let one = last_below n (is_folded n x) (length n.history) b found low in
      let wrote : touches x ops ≡ true = (and_true (is_past n b) (touches x ops) one.is_one).1 in
      ap (λ (u : ℤ). with_values n (set n.base.values x u)) (e ∙ written_either x ops wrote (pos 0) before ∙ sym left)

-- ---- one base value after another
-- the first x folded
abbrev pub partly : Network → ℕ → Network
partly n x = with_values n (take x (folded_base n).values ++ drop x n.base.values)

module _ (n : Network) where
  abbrev old : List ℤ
  old = n.base.values

  abbrev new : List ℤ
  new = (folded_base n).values

  abbrev turns : List Turn
  turns = keep (is_up_to (place_of n.items) (point_of n)) (in_turn (place_of n.items) n.history)

  new_length : length new ≡ length old
  new_length = after_length old turns

  pub all_folded : (x : ℕ) → x ≡ length old → partly n x ≡ with_values n new
  all_folded x e =
      let none_left : drop x old ≡ [] = ap (λ (k : ℕ). drop k old) e ∙ drop-length old in
      let all : take x new ≡ new = ap (λ (k : ℕ). take k new) (e ∙ sym new_length) ∙ take-length new in
      ap (with_values n) (ap (λ (vs : List ℤ). take x new ++ vs) none_left ∙ append-nil (take x new) ∙ all)

  module _ (x : ℕ) (there : x < length old) where
    abbrev mixed : List ℤ
    mixed = take x new ++ drop x old

    taken_length : length (take x new) ≡ x
    taken_length = length-take-le x new (omega (arith, new_length))

    rest_is : drop x old ≡ get_or old x (pos 0) ∷ drop (suc x) old
    rest_is = drop-cons old x (pos 0) there

    mixed_is : mixed ≡ take x new ++ (get_or old x (pos 0) ∷ drop (suc x) old)
    mixed_is = ap (λ (vs : List ℤ). take x new ++ vs) rest_is

    -- the next value is not yet folded
    mixed_at : get_or mixed x (pos 0) ≡ get_or old x (pos 0)
    mixed_at =
        let at : x ≡ length (take x new) + 0 = omega (arith, taken_length) in
        ap (λ (k : ℕ). get_or mixed k (pos 0)) at
        ∙ get_or-append-add (take x new) (drop x old) 0 (pos 0)
        ∙ ap (λ (vs : List ℤ). get_or vs 0 (pos 0)) rest_is

    mixed_reaches : x < length mixed
    mixed_reaches = omega (arith, length-append (take x new) (drop x old), taken_length, length-drop x old)

    folded_same : get_or (after mixed turns) x (pos 0) ≡ get_or new x (pos 0)
    folded_same =
        after_value mixed turns x mixed_reaches
        ∙ ap (λ (v : ℤ). last_from x v (commits turns)) mixed_at
        ∙ sym (after_value old turns x there)

    next_values : set mixed x (get_or (after mixed turns) x (pos 0)) ≡ take (x + 1) new ++ drop (x + 1) old
    next_values =
        ap (set mixed x) folded_same
        ∙ ap (λ (vs : List ℤ). set vs x (get_or new x (pos 0))) mixed_is
        ∙ set_at (take x new) (get_or old x (pos 0)) (drop (suc x) old) (get_or new x (pos 0)) x taken_length
        ∙ sym (append_assoc (take x new) (get_or new x (pos 0) ∷ []) (drop (suc x) old))
        ∙ ap (λ (vs : List ℤ). vs ++ drop (suc x) old) (sym (take-suc new x (pos 0) (omega (arith, new_length))))
        ∙ ap (λ (k : ℕ). take k new ++ drop k old) (sym (add-one x))

    pub next_folded : (m : Network) → m ≡ partly n x → folded_at m x ≡ partly n (x + 1)
    next_folded m e = ap (λ (k : Network). folded_at k x) e ∙ ap (with_values n) next_values

-- ---- in the words of a state
module _ (w : List ℕ) (at : AtState w) where
  pub few_items : item_count w ≤ items_most
  unfolding parts_of
  few_items = (range_parts w at.ranged).few_items

  module _ (x : ℕ) (there : x < item_count w) (b : ℕ) (found : LastFolded (network_in w) x b) where
    value_there : x < length (network_in w).base.values
    value_there = omega (arith, there, values_count w at.sized at.ranged)

    -- where no record that goes writes the item
    pub item_kept : records_most ≤ b → ItemStep w w x
    item_kept high = record { meant = value_kept (network_in w) x value_there b found high; ranged = at.ranged }

    module _ (low : b < records_most) where
      pub found_there : HasRecord w b
      found_there =
          let one = last_below (network_in w) (is_folded (network_in w) x) (length (network_in w).history) b found low in
          record { sized = at.sized; there = omega (arith, records_count w, one.low); few = low }

      -- where the value that the last of them writes is stored
      pub item_stored : (v : ℕ) → to_z w32 v ≡ last_or x (nth_record (network_in w) b).ops (pos 0) → (exit : List ℕ) → exit ≡ set w (base_at + 1 + x) v → ItemStep w exit x
      item_stored v e exit is =
          let few : x < items_most = omega (arith, there, few_items) in
          record {
            meant = ap network_in is ∙ value_set w at.sized x v few few_items there ∙ value_taken (network_in w) x value_there b found low (to_z w32 v) e;
            ranged = ap in_range is ∙ value_range w at.sized x v few at.ranged;
          }

-- the first x folded, the rest is as it was
module _ (w v : List ℕ) (x : ℕ) (same : network_in v ≡ partly (network_in w) x) where
  pub same_items : item_count v ≡ item_count w
  same_items = sym (items_count v 0) ∙ ap (λ (n : Network). length n.items) same ∙ items_count w 0

  pub still_last : (y b : ℕ) → LastFolded (network_in w) y b → LastFolded (network_in v) y b
  still_last y b l = subst (λ (n : Network). LastFolded n y b) (sym same) (record { found = l.found; few = l.few })
