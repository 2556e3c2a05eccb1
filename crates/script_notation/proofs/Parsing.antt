-- Laws of the operations and the items of a line, one at a time.
use mathlib.Core.Path.{◌≡◌, refl, sym, ap, ◌∙◌}
use mathlib.Core.Bool.{Bool, cond}
use mathlib.Core.List.{List, [], ◌∷◌, ◌++◌, map, append-nil}
use mathlib.Core.Option.{Option, none, some}
use Prim.Native.Nat.{ℕ, suc, ◌+◌, ◌≤◌, ◌<◌, min}
use native.Mathlib.Omega.{arith}
use native.Mathlib.Numerals.{add-one}
use lib.IntN.{ℤ, pos}
use lib.ListN.{length, get_or, take, drop, set, drop_of_length-le, length-append, length-map}
use lib.Seq.{drop-cons, length-take-le, take_all, take_at}
use borrow.Author.Tests.{le-leb, lt-leb}
use Rattle.decimal.specs.Decimal.{natural, signed}
use Rattle.site_operations.specs.Operations.{Op}
use Rattle.placement.specs.Placement.{Item}
use Rattle.protocol.specs.Steps.{ops_of, items_of}
use Rattle.script_notation.specs.Fields.{position}
use Rattle.script_notation.specs.Parse.{cons_both, writing, assigned, placed, first_operations, first_items}
use Rattle.script_notation.proofs.Walks.{ahead, ahead_more, take_more, take_next, take_least}

-- ---- an operation by its letter
pub write_none : (o : Option ℕ) → none ≡ writing o none
write_none none = refl
write_none (some i) = refl

-- without a = there is no value
pub assigned_none : (l : List ℕ) → length l ≤ position 61 l → none ≡ assigned l
unfolding signed
assigned_none l h =
    write_none (natural (take (position 61 l) l))
    ∙ ap (λ (z : List ℕ). writing (natural (take (position 61 l) l)) (signed z)) (sym (drop_of_length-le l {i = suc (position 61 l)} (omega arith)))

-- ---- operations and items from the lists of their fields
ops_snoc : (ks is : List ℕ) (vs : List ℤ) (k i : ℕ) (v : ℤ) → length is ≡ length ks → length vs ≡ length ks
    → ops_of (ks ++ (k ∷ [])) (is ++ (i ∷ [])) (vs ++ (v ∷ [])) ≡ ops_of ks is vs ++ (record { kind = k; item = i; value = v } ∷ [])
ops_snoc [] [] [] k i v e f = refl
ops_snoc [] [] (w ∷ vs) k i v e f = absurd (omega arith)
ops_snoc [] (j ∷ is) vs k i v e f = absurd (omega arith)
ops_snoc (l ∷ ks) [] vs k i v e f = absurd (omega arith)
ops_snoc (l ∷ ks) (j ∷ is) [] k i v e f = absurd (omega arith)
ops_snoc (l ∷ ks) (j ∷ is) (w ∷ vs) k i v e f =
    ap {B = List Op} (λ os. record { kind = l; item = j; value = w } ∷ os) (ops_snoc ks is vs k i v (omega arith) (omega arith))

module _ (ks is : List ℕ) (vs : List ℤ) (n : ℕ) (hk : n < length ks) (hi : n < length is) (hv : n < length vs) (k i : ℕ) (v : ℤ) where
  pub ops_more : first_operations (n + 1) (set ks n k) (set is n i) (set vs n v) ≡ first_operations n ks is vs ++ (record { kind = k; item = i; value = v } ∷ [])
  ops_more =
      ap (λ (l : List ℕ). ops_of l (take (n + 1) (set is n i)) (take (n + 1) (set vs n v))) (take_more ks n k hk)
      ∙ ap (λ (l : List ℕ). ops_of (take n ks ++ (k ∷ [])) l (take (n + 1) (set vs n v))) (take_more is n i hi)
      ∙ ap (λ (l : List ℤ). ops_of (take n ks ++ (k ∷ [])) (take n is ++ (i ∷ [])) l) (take_more vs n v hv)
      ∙ ops_snoc (take n ks) (take n is) (take n vs) k i v
      (length-take-le n is (omega arith) ∙ sym (length-take-le n ks (omega arith)))
      (length-take-le n vs (omega arith) ∙ sym (length-take-le n ks (omega arith)))

-- the first n operations and the next
module _ (ks is : List ℕ) (vs : List ℤ) (n : ℕ) (hk : n < length ks) (hi : n < length is) (hv : n < length vs) (v : ℤ) (e : v ≡ get_or vs n (pos 0)) where
  pub ops_next : first_operations (n + 1) ks is vs ≡ first_operations n ks is vs ++ (record { kind = get_or ks n 0; item = get_or is n 0; value = v } ∷ [])
  ops_next =
      ap (λ (l : List ℕ). ops_of l (take (n + 1) is) (take (n + 1) vs)) (take_next ks n 0 (get_or ks n 0) hk refl)
      ∙ ap (λ (l : List ℕ). ops_of (take n ks ++ (get_or ks n 0 ∷ [])) l (take (n + 1) vs)) (take_next is n 0 (get_or is n 0) hi refl)
      ∙ ap (λ (l : List ℤ). ops_of (take n ks ++ (get_or ks n 0 ∷ [])) (take n is ++ (get_or is n 0 ∷ [])) l) (take_next vs n (pos 0) v hv e)
      ∙ ops_snoc (take n ks) (take n is) (take n vs) (get_or ks n 0) (get_or is n 0) v
      (length-take-le n is (omega arith) ∙ sym (length-take-le n ks (omega arith)))
      (length-take-le n vs (omega arith) ∙ sym (length-take-le n ks (omega arith)))

-- the first n, of lists of so many
pub ops_least : (ks is : List ℕ) (vs : List ℤ) (i n m : ℕ) → i ≡ min n m → length ks ≡ m → length is ≡ m → length vs ≡ m → first_operations i ks is vs ≡ first_operations n ks is vs
ops_least ks is vs i n m e hk hi hv =
    ap (λ (l : List ℕ). ops_of l (take i is) (take i vs)) (take_least ks i n m e hk)
    ∙ ap (λ (l : List ℕ). ops_of (take n ks) l (take i vs)) (take_least is i n m e hi)
    ∙ ap (λ (l : List ℤ). ops_of (take n ks) (take n is) l) (take_least vs i n m e hv)

-- the fields of operations that the lists of their fields give
pub kinds_of : (ks is : List ℕ) (vs : List ℤ) → length is ≡ length ks → length vs ≡ length ks → map (λ (o : Op). o.kind) (ops_of ks is vs) ≡ ks
kinds_of [] is vs e f = refl
kinds_of (k ∷ ks) [] vs e f = absurd (omega arith)
kinds_of (k ∷ ks) (i ∷ is) [] e f = absurd (omega arith)
kinds_of (k ∷ ks) (i ∷ is) (v ∷ vs) e f = ap {B = List ℕ} (λ l. k ∷ l) (kinds_of ks is vs (omega arith) (omega arith))

pub items_of_lem : (ks is : List ℕ) (vs : List ℤ) → length is ≡ length ks → length vs ≡ length ks → map (λ (o : Op). o.item) (ops_of ks is vs) ≡ is
items_of_lem [] [] vs e f = refl
items_of_lem [] (i ∷ is) vs e f = absurd (omega arith)
items_of_lem (k ∷ ks) [] vs e f = absurd (omega arith)
items_of_lem (k ∷ ks) (i ∷ is) [] e f = absurd (omega arith)
items_of_lem (k ∷ ks) (i ∷ is) (v ∷ vs) e f = ap {B = List ℕ} (λ l. i ∷ l) (items_of_lem ks is vs (omega arith) (omega arith))

pub values_of : (ks is : List ℕ) (vs : List ℤ) → length is ≡ length ks → length vs ≡ length ks → map (λ (o : Op). o.value) (ops_of ks is vs) ≡ vs
values_of [] is [] e f = refl
values_of [] is (v ∷ vs) e f = absurd (omega arith)
values_of (k ∷ ks) [] vs e f = absurd (omega arith)
values_of (k ∷ ks) (i ∷ is) [] e f = absurd (omega arith)
values_of (k ∷ ks) (i ∷ is) (v ∷ vs) e f = ap {B = List ℤ} (λ l. v ∷ l) (values_of ks is vs (omega arith) (omega arith))

-- ---- operations of which the first m are kept
-- one more is kept while there is room, and where there is none those that are kept stay
module _ (m : ℕ) (ks is : List ℕ) (vs : List ℤ) (hk : length ks ≡ m) (hi : length is ≡ m) (hv : length vs ≡ m) (n : ℕ) (o : Op) where
  kept_length : n ≤ m → length (first_operations n ks is vs) ≡ n
  kept_length h =
      let k : length (take n ks) ≡ n = length-take-le n ks (omega arith) in
      let i : length (take n is) ≡ n = length-take-le n is (omega arith) in
      let v : length (take n vs) ≡ n = length-take-le n vs (omega arith) in
      sym (length-map (first_operations n ks is vs) (λ (x : Op). x.kind)) ∙ ap length (kinds_of (take n ks) (take n is) (take n vs) (i ∙ sym k) (v ∙ sym k)) ∙ k

  pub kept_more : n < m → first_operations (n + 1) (set ks n o.kind) (set is n o.item) (set vs n o.value) ≡ take m (first_operations n ks is vs ++ (o ∷ []))
  kept_more h =
      let size = kept_length (omega arith) in
      ops_more ks is vs n (omega arith) (omega arith) (omega arith) o.kind o.item o.value
      ∙ sym (take_all m (first_operations n ks is vs ++ (o ∷ [])) (omega (arith, length-append (first_operations n ks is vs) (o ∷ []))))

  pub kept_full : n ≡ m → first_operations n ks is vs ≡ take m (first_operations n ks is vs ++ (o ∷ []))
  kept_full h = sym (take_at (first_operations n ks is vs) (o ∷ []) m (kept_length (omega arith) ∙ h))

items_snoc : (ps ms : List ℕ) (p m : ℕ) → length ms ≡ length ps → items_of (ps ++ (p ∷ [])) (ms ++ (m ∷ [])) ≡ items_of ps ms ++ (record { primary = p; mask = m } ∷ [])
items_snoc [] [] p m e = refl
items_snoc [] (n ∷ ms) p m e = absurd (omega arith)
items_snoc (q ∷ ps) [] p m e = absurd (omega arith)
items_snoc (q ∷ ps) (n ∷ ms) p m e = ap {B = List Item} (λ is. record { primary = q; mask = n } ∷ is) (items_snoc ps ms p m (omega arith))

pub items_more : (ps ms : List ℕ) (n : ℕ) → n < length ps → n < length ms → (p m : ℕ) → first_items (n + 1) (set ps n p) (set ms n m) ≡ first_items n ps ms ++ (record { primary = p; mask = m } ∷ [])
items_more ps ms n hp hm p m =
    ap (λ (l : List ℕ). items_of l (take (n + 1) (set ms n m))) (take_more ps n p hp)
    ∙ ap (λ (l : List ℕ). items_of (take n ps ++ (p ∷ [])) l) (take_more ms n m hm)
    ∙ items_snoc (take n ps) (take n ms) p m (length-take-le n ms (omega arith) ∙ sym (length-take-le n ps (omega arith)))

pub primaries_of : (ps ms : List ℕ) → length ms ≡ length ps → map (λ (i : Item). i.primary) (items_of ps ms) ≡ ps
primaries_of [] ms e = refl
primaries_of (p ∷ ps) [] e = absurd (omega arith)
primaries_of (p ∷ ps) (m ∷ ms) e = ap {B = List ℕ} (λ l. p ∷ l) (primaries_of ps ms (omega arith))

pub masks_of : (ps ms : List ℕ) → length ms ≡ length ps → map (λ (i : Item). i.mask) (items_of ps ms) ≡ ms
masks_of [] [] e = refl
masks_of [] (m ∷ ms) e = absurd (omega arith)
masks_of (p ∷ ps) [] e = absurd (omega arith)
masks_of (p ∷ ps) (m ∷ ms) e = ap {B = List ℕ} (λ l. m ∷ l) (masks_of ps ms (omega arith))

-- ---- items two by two, up to a position
module _ (l : List ℕ) (at : ℕ) (ys : List Item) (o : Option (List Item)) (e : o ≡ ahead ys (placed (drop at l))) where
  pub items_end : length l ≤ at → o ≡ some ys
  unfolding placed
  items_end h = e ∙ ap (λ (x : List ℕ). ahead ys (placed x)) (drop_of_length-le l {i = at} h) ∙ ap (λ (x : List Item). some x) (append-nil ys)

  module _ (h : at < length l) where
    one_on : drop at l ≡ get_or l at 0 ∷ drop (at + 1) l
    one_on = drop-cons l at 0 h ∙ ap (λ (k : ℕ). get_or l at 0 ∷ drop k l) (sym (add-one at))

    pub items_odd : length l ≤ at + 1 → o ≡ none
    unfolding placed
    items_odd g = e ∙ ap (λ (x : List ℕ). ahead ys (placed x)) (one_on ∙ ap (λ (x : List ℕ). get_or l at 0 ∷ x) (drop_of_length-le l {i = at + 1} g))

    module _ (g : at + 1 < length l) where
      two_on : drop at l ≡ get_or l at 0 ∷ (get_or l (at + 1) 0 ∷ drop (at + 1 + 1) l)
      two_on = one_on ∙ ap (λ (x : List ℕ). get_or l at 0 ∷ x) (drop-cons l (at + 1) 0 g ∙ ap (λ (k : ℕ). get_or l (at + 1) 0 ∷ drop k l) (sym (add-one (at + 1))))

      pub items_large : 255 < get_or l (at + 1) 0 → o ≡ none
      unfolding placed
      items_large m = e ∙ ap (λ (x : List ℕ). ahead ys (placed x)) two_on ∙ (rw (lt-leb (get_or l (at + 1) 0) 255 m))

      pub items_next : get_or l (at + 1) 0 ≤ 255 → o ≡ ahead (ys ++ (record { primary = get_or l at 0; mask = get_or l (at + 1) 0 } ∷ [])) (placed (drop (at + 1 + 1) l))
      unfolding placed
      items_next m =
          e
          ∙ ap (λ (x : List ℕ). ahead ys (placed x)) two_on
          ∙ ap (λ (b : Bool). ahead ys (cons_both (cond b (some (record { primary = get_or l at 0; mask = get_or l (at + 1) 0 })) none) (placed (drop (at + 1 + 1) l)))) (le-leb (get_or l (at + 1) 0) 255 m)
          ∙ ahead_more ys (record { primary = get_or l at 0; mask = get_or l (at + 1) 0 }) (placed (drop (at + 1 + 1) l))
