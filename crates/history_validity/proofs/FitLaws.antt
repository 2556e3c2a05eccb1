-- The tests of a record's bytes in the order in which the code makes them.
use mathlib.Core.Path.{◌≡◌, refl, sym, ap, ap₂, ◌∙◌}
use mathlib.Core.Bool.{Bool, true, false, ◌&&◌}
use mathlib.Core.List.{List, [], ◌∷◌, map}
use Prim.Native.Nat.{ℕ, ◌+◌, ◌*◌, ◌-◌, ◌≤◌, ◌<◌}
use lib.ListN.{length, get_or, drop}
use lib.Dec.{eqb, ltb}
use borrow.Author.Tests.{lt-ltb, le-ltb, eq-eqb, ne_eqb}
use Rattle.words.specs.Words.{part, chunks}
use Rattle.lists.specs.Lists.{every}
use Rattle.timestamp_order.specs.Made.{made_by}
use Rattle.records.specs.Records.{op_fits, record_fits}
use Rattle.history_file.specs.Bytes.{unit_size, padded}
use Rattle.history_file.specs.Reading.{op_read, tuple_count, op_count, tuple_units, op_units, record_read}
use Rattle.history_file.proofs.Units.{every_map, rest_part, pairs_of}
use Rattle.history_tuple_validity.specs.Fits.{tuples_fit}
use Rattle.history_operation_validity.specs.Fits.{op_fit}
use Rattle.history_validity.specs.Fits.{fields_fit}

-- ---- truth values
and_false : (a : Bool) → (a && false) ≡ false
and_false true = refl
and_false false = refl

swap : (a b c d : Bool) → ((a && b) && (c && d)) ≡ ((a && c) && (b && d))
swap false b c d = refl
swap true b true d = refl
swap true b false d = and_false b

regroup : (h p q s m o : Bool) → ((h && (p && q)) && (s && (m && o))) ≡ (h && (s && ((p && m) && (q && o))))
regroup false p q s m o = refl
regroup true p q true m o = swap p q m o
regroup true p q false m o = and_false (p && q)

every_both : {A : Type 0} (p q : A → Bool) (l : List A) → every (λ x. p x && q x) l ≡ (every p l && every q l)
every_both p q [] = refl
every_both p q (x ∷ l) = ap (λ (t : Bool). (p x && q x) && t) (every_both p q l) ∙ swap (p x) (q x) (every p l) (every q l)

-- ---- a record
module _ (place : ℕ → ℕ) (sites items : ℕ) (b : List ℕ) where
  fits_is : fields_fit place sites items b ≡ (eqb (get_or b 3 0) 0 && (ltb (get_or b 0 0) sites && (tuples_fit place (get_or b 0 0) (tuple_count b) (drop unit_size b) && every (op_fit items) (op_units b))))
  unfolding record_fits record_read made_by
  fits_is =
      let made = made_by place (get_or b 0 0) (record { epoch = 0; tuples = pairs_of (drop unit_size b) (tuple_count b) }) in
      regroup (eqb (get_or b 3 0) 0) (every (padded 1) (tuple_units b)) (every (padded 2) (op_units b)) (ltb (get_or b 0 0) sites) made (every (op_fits items) (map op_read (op_units b)))
      ∙ ap (λ (t : Bool). eqb (get_or b 3 0) 0 && (ltb (get_or b 0 0) sites && ((every (padded 1) (tuple_units b) && made) && t)))
      (ap (λ (t : Bool). every (padded 2) (op_units b) && t) (every_map (op_fits items) op_read (op_units b)) ∙ sym (every_both (padded 2) (λ (u : List ℕ). op_fits items (op_read u)) (op_units b)))

  module _ (site : ℕ) (is : site ≡ get_or b 0 0) where
    fits_at : fields_fit place sites items b ≡ (eqb (get_or b 3 0) 0 && (ltb site sites && (tuples_fit place site (tuple_count b) (drop unit_size b) && every (op_fit items) (op_units b))))
    fits_at = fits_is ∙ ap (λ (x : ℕ). eqb (get_or b 3 0) 0 && (ltb x sites && (tuples_fit place x (tuple_count b) (drop unit_size b) && every (op_fit items) (op_units b)))) (sym is)

    pub head_unpadded : (get_or b 3 0 ≡ 0 → ⊥) → false ≡ fields_fit place sites items b
    head_unpadded n = sym (fits_at ∙ rw (ne_eqb (get_or b 3 0) 0 n))

    module _ (z : get_or b 3 0 ≡ 0) where
      pub site_unknown : sites ≤ site → false ≡ fields_fit place sites items b
      site_unknown h = sym (fits_at ∙ rw (eq-eqb (get_or b 3 0) 0 z, le-ltb site sites h))

      module _ (here : site < sites) (t : ℕ) (ts : t ≡ tuple_count b) (r : Bool) (rs : r ≡ tuples_fit place site t (part b unit_size (length b - unit_size))) where
        tuples_same : r ≡ tuples_fit place site (tuple_count b) (drop unit_size b)
        tuples_same = rs ∙ ap₂ (tuples_fit place site) ts (rest_part b unit_size)

        pub tuples_unfit : r ≡ false → false ≡ fields_fit place sites items b
        tuples_unfit f = sym (fits_at ∙ rw (eq-eqb (get_or b 3 0) 0 z, lt-ltb site sites here, ← tuples_same, f))

        pub fits_by_ops : r ≡ true → (o a : ℕ) → o ≡ op_count b → a ≡ unit_size + unit_size * t → (q : Bool) → q ≡ every (op_fit items) (chunks unit_size o (part b a (length b - a))) → q ≡ fields_fit place sites items b
        fits_by_ops g o a os es q e =
            e
            ∙ ap₂ (λ (k : ℕ) (x : List ℕ). every (op_fit items) (chunks unit_size k x)) os (rest_part b a ∙ ap (λ (k : ℕ). drop k b) (es ∙ ap (λ (k : ℕ). unit_size + unit_size * k) ts))
            ∙ sym (fits_at ∙ rw (eq-eqb (get_or b 3 0) 0 z, lt-ltb site sites here, ← tuples_same, g))
