-- A record as a value: its tuples and operations at eight places each.
use mathlib.Core.Path.{◌≡◌, refl, sym, ap, ap₂, subst, ◌∙◌}
use mathlib.Core.Bool.{true}
use mathlib.Core.List.{List, [], map}
use Prim.Native.Nat.{ℕ, ◌+◌, ◌-◌, ◌*◌, ◌≤◌, ◌<◌}
use native.Mathlib.Omega.{arith}
use lib.IntN.{ℤ}
use lib.ListN.{length, get_or, drop, length-map, get_or-map, get_or-eq_default}
use borrow.Author.Tests.{leb-true, le-leb, lt-leb}
use lib.Dec.{leb}
use mir.Val.{to_z, of_z, SFits}
use mir.ValLaws.{to_z-of_z}
use mir.Syntax.{w32}
use Rattle.words.specs.Words.{part, chunks}
use Rattle.words.proofs.Parts.{part_get_d}
use Rattle.words.proofs.Chunks.{chunks_length, chunks_at}
use Rattle.lists.specs.Lists.{spell}
use Rattle.lists.proofs.Every.{and_true}
use Rattle.timestamp.specs.declared.Tuple.{Tuple}
use Rattle.timestamp_order.specs.Timestamp.{Pair, no_pair, room}
use Rattle.timestamp.specs.Value.{pair_of, PlainValue}
use Rattle.timestamp.proofs.Plain.{plain_places, plain_as}
use Rattle.site_operations.specs.Operations.{Op, no_op}
use Rattle.limits.specs.Limits.{ops_most}
use Rattle.history_file.specs.declared.Found.{Found}
use Rattle.history_file.specs.Bytes.{unit_size, number_at}
use Rattle.history_file.specs.Reading.{op_read, tuple_count, op_count, op_units, size_read, within, record_read, record_valid}
use Rattle.history_file.specs.Promises.{places_from, Gives, Step, no_step, step_of}
use Rattle.history_file.proofs.Units.{pairs_of, pairs_length, pair_at_lem, rest_part}
use Rattle.history_file.proofs.Validity.{sized, step_valid, step_invalid, valid_parts, valid_room}

-- the number in an eight of bytes
module _ (b : List ℕ) (i : ℕ) where
  unit_get_d : (j at : ℕ) → j < unit_size → at ≡ i * unit_size + j → get_or (part b (i * unit_size) unit_size) j 0 ≡ get_or b at 0
  unit_get_d j at h e = part_get_d b (i * unit_size) unit_size j h ∙ ap (λ (k : ℕ). get_or b k 0) (sym e)

  unit_number : number_at (part b (i * unit_size) unit_size) 4 ≡ number_at b (i * unit_size + 4)
  unfolding number_at
  unit_number =
      let a = unit_get_d 4 (i * unit_size + 4) (omega arith) refl in
      let c = unit_get_d 5 (i * unit_size + 4 + 1) (omega arith) (omega arith) in
      let d = unit_get_d 6 (i * unit_size + 4 + 2) (omega arith) (omega arith) in
      let e = unit_get_d 7 (i * unit_size + 4 + 3) (omega arith) (omega arith) in
      λ t. a t + 256 * (c t + 256 * (d t + 256 * e t))

-- ---- tuples
module _ (b : List ℕ) (n i : ℕ) where
  pub tuple_there : i < n → (site count : ℕ) → site ≡ get_or b (i * unit_size) 0 → count ≡ number_at b (i * unit_size + 4) → ◌≡◌ {A = Pair} (record { site = site; count = count }) (get_or (pairs_of b n) i no_pair)
  tuple_there h site count s c =
      let p = s ∙ sym (unit_get_d b i 0 (i * unit_size) (omega arith) (omega arith)) in
      let q = c ∙ sym (unit_number b i) in
      (λ t. record { site = p t; count = q t }) ∙ sym (pair_at_lem b n i h)

  pub tuple_past : n ≤ i → no_pair ≡ get_or (pairs_of b n) i no_pair
  tuple_past h = sym (get_or-eq_default (pairs_of b n) no_pair {n = i} (omega (arith, pairs_length b n)))

-- eight places, of which n are tuples
pub stamped : (b : List ℕ) (n epoch : ℕ) (l : List Tuple) → n ≤ room → map pair_of l ≡ spell no_pair 0 room (pairs_of b n)
    → PlainValue (record { epoch = epoch; tuples = pairs_of b n }) (record { epoch = record { 0 = epoch }; len = n; tuples = l })
stamped b n epoch l h e = plain_places (record { 0 = epoch }) n l (pairs_of b n) (sym (pairs_length b n)) (omega (arith, pairs_length b n)) e

-- ---- operations
module _ (b : List ℕ) (n : ℕ) where
  abbrev pub ops_of : List Op
  ops_of = map op_read (chunks unit_size n b)

  pub ops_length : length ops_of ≡ n
  ops_length = length-map (chunks unit_size n b) op_read ∙ chunks_length unit_size n b

  no_op_lem : no_op ≡ op_read []
  unfolding number_at
  no_op_lem = refl

  pub op_at_lem : (i : ℕ) → i < n → get_or ops_of i no_op ≡ op_read (part b (i * unit_size) unit_size)
  op_at_lem i h = ap (get_or ops_of i) no_op_lem ∙ get_or-map op_read (chunks unit_size n b) i [] ∙ ap op_read (chunks_at unit_size n b i h)

-- the fields of operation i
module _ (b : List ℕ) (i : ℕ) where
  pub op_kind : get_or b (i * unit_size) 0 ≡ (op_read (part b (i * unit_size) unit_size)).kind
  op_kind = sym (unit_get_d b i 0 (i * unit_size) (omega arith) (omega arith))

  pub op_item : get_or b (i * unit_size + 1) 0 ≡ (op_read (part b (i * unit_size) unit_size)).item
  op_item = sym (unit_get_d b i 1 (i * unit_size + 1) (omega arith) refl)

  pub op_value : (w : ℕ) → w ≡ number_at b (i * unit_size + 4) → to_z w32 w ≡ (op_read (part b (i * unit_size) unit_size)).value
  op_value w e = ap (to_z w32) (e ∙ sym (unit_number b i))

-- a value that is passed on
pub passed_on : (z y : ℤ) → SFits w32 z → z ≡ y → to_z w32 (of_z w32 z) ≡ y
passed_on z y f e = to_z-of_z w32 z f ∙ e

-- ---- a record
module _ (b : List ℕ) (t o a : ℕ) (ts : t ≡ tuple_count b) (os : o ≡ op_count b) (from : a ≡ unit_size + unit_size * t) where
  ops_same : ops_of (part b a (length b - a)) o ≡ map op_read (op_units b)
  ops_same = ap₂ (λ (x : List ℕ) (k : ℕ). ops_of x k) (rest_part b a ∙ ap (λ (k : ℕ). drop k b) (from ∙ ap (λ (k : ℕ). unit_size + unit_size * k) ts)) os

  pub held : (next : ℕ) (r : Found) (epoch : ℕ) → r.number ≡ 0 → r.next ≡ next → r.site ≡ get_or b 0 0 → epoch ≡ number_at b 4
      → PlainValue (record { epoch = epoch; tuples = pairs_of (part b unit_size (length b - unit_size)) t }) r.stamp
      → r.count ≡ o
      → r.kinds ≡ places_from (λ x. x.kind) (ops_of (part b a (length b - a)) o) 0 ops_most
      → r.items ≡ places_from (λ x. x.item) (ops_of (part b a (length b - a)) o) 0 ops_most
      → r.values ≡ places_from (λ x. x.value) (ops_of (part b a (length b - a)) o) 0 ops_most
      → Gives (record { number = 0; next = next; found = record_read b }) r
  unfolding record_read
  held next r epoch n x s e st c ks is vs =
      let tuples = ap₂ (λ (x : List ℕ) (k : ℕ). pairs_of x k) (rest_part b unit_size) ts in
      record {
        number_is = n;
        next_is = x;
        site_is = s;
        stamp_is = plain_as (λ t. record { epoch = e t; tuples = tuples t }) st;
        count_is = c ∙ os ∙ sym (length-map (op_units b) op_read ∙ chunks_length unit_size (op_count b) (drop (unit_size + unit_size * tuple_count b) b));
        kinds_are = ks ∙ ap (λ (l : List Op). places_from (λ x. x.kind) l 0 ops_most) ops_same;
        items_are = is ∙ ap (λ (l : List Op). places_from (λ x. x.item) l 0 ops_most) ops_same;
        values_are = vs ∙ ap (λ (l : List Op). places_from (λ x. x.value) l 0 ops_most) ops_same;
      }

-- ---- counts of a valid record
pub valid_counts : (place : ℕ → ℕ) (sites items : ℕ) (b : List ℕ) → record_valid place sites items b ≡ true → (tuple_count b ≤ room) × (op_count b ≤ ops_most)
valid_counts place sites items b e =
    let d = and_true (within 1 room (tuple_count b)) (within 1 ops_most (op_count b)) (valid_parts place sites items b e).counts in (
      leb-true (tuple_count b) room (and_true (leb 1 (tuple_count b)) (leb (tuple_count b) room) d.0).1,
      leb-true (op_count b) ops_most (and_true (leb 1 (op_count b)) (leb (op_count b) ops_most) d.1).1,
    )

-- ---- the record that starts at a place
module _ (b : List ℕ) (at : ℕ) (place : ℕ → ℕ) (sites items : ℕ) where
  pub step_ended : length b ≤ at → no_step 24 ≡ step_of b at place sites items
  unfolding step_of
  step_ended h = sym (rw (le-leb (length b) at h))

  module _ (h : at < length b) (k : ℕ) (e : k ≡ sized place sites items b at) where
    pub step_wrong : k ≡ 0 → no_step 23 ≡ step_of b at place sites items
    unfolding step_of
    step_wrong z = sym (rw (lt-leb (length b) at h, step_invalid place sites items b at k e z))

    module _ (some : k ≡ 0 → ⊥) where
      pub step_inside : at + k ≤ length b
      step_inside = (step_valid place sites items b at k e some).2 (omega arith)

      pub step_fits : (size_read (part b at (length b - at)) ≤ length (part b at (length b - at))) × (tuple_count (part b at (length b - at)) ≤ room) × (op_count (part b at (length b - at)) ≤ ops_most)
      step_fits =
          let v = (step_valid place sites items b at k e some).0 in
          let c = valid_counts place sites items (drop at b) v in
          subst (λ (x : List ℕ). (size_read x ≤ length x) × (tuple_count x ≤ room) × (op_count x ≤ ops_most)) (sym (rest_part b at)) (valid_room place sites items (drop at b) v, c.0, c.1)

      pub step_right : ◌≡◌ {A = Step} (record { number = 0; next = at + k; found = record_read (part b at (length b - at)) }) (step_of b at place sites items)
      unfolding step_of
      step_right =
          let v = step_valid place sites items b at k e some in
          ap₂ {C = Step} (λ (n : ℕ) (x : List ℕ). record { number = 0; next = at + n; found = record_read x }) v.1 (rest_part b at) ∙ sym (rw (lt-leb (length b) at h, v.0))
