-- The tests of a record's bytes, one after another, and the walk over a part's records.
use mathlib.Core.Path.{◌≡◌, refl, sym, ap, ap₂, ◌∙◌}
use mathlib.Core.Bool.{Bool, true, false, cond, ◌&&◌}
use mathlib.Core.List.{List}
use Prim.Native.Nat.{ℕ, zero, suc, ◌+◌, ◌-◌, ◌*◌, ◌≤◌, ◌<◌}
use native.Mathlib.Omega.{arith}
use lib.ListN.{length, get_or, drop, length-drop, drop_of_length-le}
use lib.Seq.{drop-drop, drop-cons}
use lib.Dec.{eqb, leb}
use borrow.Author.Tests.{lt-ltb, le-ltb, le-leb, lt-leb, eq-eqb, ne_eqb, leb-true}
use Rattle.words.specs.Words.{part}
use Rattle.lists.specs.Lists.{is_empty}
use Rattle.lists.proofs.Every.{and_true}
use Rattle.timestamp_order.specs.Timestamp.{Stamp}
use Rattle.timestamp_order.specs.Made.{made_by, rising as risingOf}
use Rattle.records.specs.Records.{record_fits}
use Rattle.history_file.specs.Bytes.{unit_size}
use Rattle.history_file.specs.Reading.{tuple_count, op_count, record_read, size_read, counts_fit, pads_zero, record_valid, records_fill}
use Rattle.history_file.proofs.Units.{rest_part, pairs_of, pairs_length, last_site}

-- ---- which site made a timestamp
module _ (place : ℕ → ℕ) (b : List ℕ) (n site : ℕ) where
  abbrev bare : Stamp
  bare = record { epoch = 0; tuples = pairs_of b n }

  pub made_none : n ≡ 0 → false ≡ made_by place site bare
  unfolding made_by
  made_none z = sym (rw (le-ltb 0 (length (pairs_of b n)) (omega (arith, pairs_length b n))))

  module _ (some : n ≡ 0 → ⊥) (r : Bool) (is : r ≡ risingOf place (pairs_of b n)) where
    made_is : made_by place site bare ≡ (r && eqb (get_or b (n * unit_size - unit_size) 0) site)
    unfolding made_by
    made_is = rw (lt-ltb 0 (length (pairs_of b n)) (omega (arith, pairs_length b n)), ← is, last_site b n (omega arith))

    pub made_falling : r ≡ false → false ≡ made_by place site bare
    made_falling f = sym (made_is ∙ rw f)

    pub made_last : r ≡ true → (own : ℕ) → own ≡ get_or b (n * unit_size - unit_size) 0 → eqb own site ≡ made_by place site bare
    made_last t own e = sym (made_is ∙ rw (t, ← e))

-- ---- a whole record
module _ (place : ℕ → ℕ) (sites items : ℕ) (b : List ℕ) (size : ℕ) (is : size ≡ size_read b) where
  pub valid_short : length b < size → false ≡ record_valid place sites items b
  unfolding record_valid
  valid_short h = sym (rw (lt-leb (size_read b) (length b) (omega arith)))

  module _ (long : size ≤ length b) (t o : ℕ) (ts : t ≡ tuple_count b) (os : o ≡ op_count b) (counts : Bool) (cs : counts ≡ counts_fit t o) where
    valid_is : record_valid place sites items b ≡ (counts && (pads_zero b && record_fits place sites items (record_read b)))
    unfolding record_valid
    valid_is = rw (le-leb (size_read b) (length b) (omega arith)) (ap (λ (x : Bool). x && (pads_zero b && record_fits place sites items (record_read b))) (sym (cs ∙ ap₂ counts_fit ts os)))

    pub valid_uncounted : counts ≡ false → false ≡ record_valid place sites items b
    valid_uncounted f = sym (valid_is ∙ rw f)

    pub valid_by_fields : counts ≡ true → (q : Bool) → q ≡ (pads_zero b && record_fits place sites items (record_read b)) → q ≡ record_valid place sites items b
    valid_by_fields f q e = e ∙ sym (valid_is ∙ rw f)

-- what its test says, part by part
pub record Valid (place : ℕ → ℕ) (sites items : ℕ) (b : List ℕ) : Type 0 where
  pub room : size_read b ≤ length b
  pub counts : counts_fit (tuple_count b) (op_count b) ≡ true
  pub pads : pads_zero b ≡ true
  pub fits : record_fits place sites items (record_read b) ≡ true

pub valid_parts : (place : ℕ → ℕ) (sites items : ℕ) (b : List ℕ) → record_valid place sites items b ≡ true → Valid place sites items b
unfolding record_valid
valid_parts place sites items b e =
    let counts = counts_fit (tuple_count b) (op_count b) in
    let fits = record_fits place sites items (record_read b) in
    let p = and_true (leb (size_read b) (length b)) (counts && (pads_zero b && fits)) e in
    let q = and_true counts (pads_zero b && fits) p.1 in
    let r = and_true (pads_zero b) fits q.1 in
    record { room = leb-true (size_read b) (length b) p.0; counts = q.0; pads = r.0; fits = r.1 }

pub valid_room : (place : ℕ → ℕ) (sites items : ℕ) (b : List ℕ) → record_valid place sites items b ≡ true → size_read b ≤ length b
valid_room place sites items b e = (valid_parts place sites items b e).room

pub size_some : (b : List ℕ) → 8 ≤ size_read b
unfolding size_read
size_some b = omega arith

-- ---- the record at a place
module _ (place : ℕ → ℕ) (sites items : ℕ) (b : List ℕ) (at : ℕ) where
  abbrev pub sized : ℕ
  sized = cond (record_valid place sites items (drop at b)) (size_read (drop at b)) 0

  module _ (v : Bool) (is : v ≡ record_valid place sites items (part b at (length b - at))) where
    valid_same : v ≡ record_valid place sites items (drop at b)
    valid_same = is ∙ ap (record_valid place sites items) (rest_part b at)

    pub step_none : v ≡ false → 0 ≡ sized
    step_none f = sym (rw (sym valid_same ∙ f))

    pub step_some : v ≡ true → (k : ℕ) → k ≡ size_read (part b at (length b - at)) → k ≡ sized
    step_some t k e = e ∙ ap size_read (rest_part b at) ∙ sym (rw (sym valid_same ∙ t))

  -- what it says of the bytes
  pub step_valid : (k : ℕ) → k ≡ sized → (k ≡ 0 → ⊥) → (record_valid place sites items (drop at b) ≡ true) × (k ≡ size_read (drop at b)) × (at ≤ length b → at + k ≤ length b)
  step_valid k e n = go (record_valid place sites items (drop at b)) refl
    where
      go : (v : Bool) → record_valid place sites items (drop at b) ≡ v → (record_valid place sites items (drop at b) ≡ true) × (k ≡ size_read (drop at b)) × (at ≤ length b → at + k ≤ length b)
      go true h =
          let s : k ≡ size_read (drop at b) = e ∙ rw h in
          (h, s, λ g. omega (arith, valid_room place sites items (drop at b) h, length-drop at b))
      go false h = absurd (n (e ∙ rw h))

  pub step_invalid : (k : ℕ) → k ≡ sized → k ≡ 0 → record_valid place sites items (drop at b) ≡ false
  step_invalid k e z = go (record_valid place sites items (drop at b)) refl
    where
      go : (v : Bool) → record_valid place sites items (drop at b) ≡ v → record_valid place sites items (drop at b) ≡ false
      go true h = let s : k ≡ size_read (drop at b) = e ∙ rw h in absurd (omega (arith, size_some (drop at b)))
      go false h = h

-- ---- the walk over records
empty_at : (b : List ℕ) (at : ℕ) → at ≤ length b → is_empty (drop at b) ≡ eqb at (length b)
empty_at b at h = go (length b - at) refl
  where
    go : (k : ℕ) → length b - at ≡ k → is_empty (drop at b) ≡ eqb at (length b)
    go zero e = ap is_empty (drop_of_length-le b {i = at} (omega arith)) ∙ sym (eq-eqb at (length b) (omega arith))
    go (suc k) e = ap is_empty (drop-cons b at 0 (omega arith)) ∙ sym (ne_eqb at (length b) (λ z. omega arith))

module _ (place : ℕ → ℕ) (sites items n : ℕ) (b : List ℕ) (i at : ℕ) (e : records_fill place sites items n b ≡ records_fill place sites items (n - i) (drop at b)) where
  pub fill_done : n ≤ i → at ≤ length b → eqb at (length b) ≡ records_fill place sites items n b
  unfolding records_fill
  fill_done h g = let z : n - i ≡ 0 = omega arith in sym (e ∙ ap (λ (k : ℕ). records_fill place sites items k (drop at b)) z ∙ empty_at b at g)

  module _ (h : i < n) (k : ℕ) (s : k ≡ sized place sites items b at) where
    fill_is : records_fill place sites items n b ≡ (record_valid place sites items (drop at b) && records_fill place sites items (n - (i + 1)) (drop (at + size_read (drop at b)) b))
    unfolding records_fill
    fill_is =
        let z : n - i ≡ suc (n - (i + 1)) = omega arith in
        e ∙ ap (λ (m : ℕ). records_fill place sites items m (drop at b)) z ∙ ap (λ (x : List ℕ). record_valid place sites items (drop at b) && records_fill place sites items (n - (i + 1)) x) (drop-drop (size_read (drop at b)) at b)

    pub fill_stops : k ≡ 0 → false ≡ records_fill place sites items n b
    fill_stops z = sym (fill_is ∙ rw (step_invalid place sites items b at k s z))

    pub fill_next : (k ≡ 0 → ⊥) → records_fill place sites items n b ≡ records_fill place sites items (n - (i + 1)) (drop (at + k) b)
    fill_next m =
        let v = step_valid place sites items b at k s m in
        fill_is ∙ rw v.0 (ap (λ (j : ℕ). records_fill place sites items (n - (i + 1)) (drop (at + j) b)) (sym v.1))
