-- Operations placed one after another: one law for every field.
use mathlib.Core.Path.{◌≡◌, refl, sym, ap, ◌∙◌}
use mathlib.Core.List.{List, [], ◌∷◌}
use Prim.Native.Nat.{ℕ, zero, suc, ◌+◌, ◌<◌}
use native.Mathlib.Omega.{arith}
use native.Mathlib.Numerals.{add-one}
use native.Mathlib.Nat.{not-suc-le-zero}
use lib.IntN.{ℤ}
use lib.ListN.{length, get_or, set, take}
use Rattle.limits.specs.Limits.{ops_most}
use Rattle.site_operations.specs.Operations.{Op, no_op}
use Rattle.history_file.specs.Promises.{places_from}
use Rattle.history_record.specs.Placed.{Operated, Placed}

module _ {A : Type 0} (f : Op → A) where
  none_placed : (j n : ℕ) → places_from f [] j n ≡ places_from f [] 0 n
  none_placed j zero = refl
  none_placed j (suc n) = ap {B = List A} (λ l. f no_op ∷ l) (none_placed (suc j) n ∙ sym (none_placed 1 n))

  rest_placed : (o : Op) (os : List Op) (j n : ℕ) → places_from f (o ∷ os) (suc j) n ≡ places_from f os j n
  rest_placed o os j zero = refl
  rest_placed o os j (suc n) = ap {B = List A} (λ l. f (get_or os j no_op) ∷ l) (rest_placed o os (suc j) n)

  -- the field of operation i, stored at its place
  one_more : (os : List Op) (i n : ℕ) → i < length os → i < n → places_from f (take (suc i) os) 0 n ≡ set (places_from f (take i os) 0 n) i (f (get_or os i no_op))
  one_more [] i n h g = absurd (not-suc-le-zero h)
  one_more (o ∷ os) i zero h g = absurd (not-suc-le-zero g)
  one_more (o ∷ os) zero (suc n) h g = ap {B = List A} (λ l. f o ∷ l) (rest_placed o [] 0 n ∙ sym (none_placed 1 n))
  one_more (o ∷ os) (suc i) (suc n) h g =
      ap {B = List A} (λ l. f o ∷ l)
      (rest_placed o (take (suc i) os) 0 n
      ∙ one_more os i n (omega arith) (omega arith)
      ∙ ap (λ (l : List A). set l i (f (get_or os i no_op))) (sym (rest_placed o (take i os) 0 n)))

  more : (os : List Op) (i : ℕ) → i < length os → i < ops_most → (x : A) → x ≡ f (get_or os i no_op) → (xs : List A) → xs ≡ places_from f (take i os) 0 ops_most → set xs i x ≡ places_from f (take (i + 1) os) 0 ops_most
  more os i h g x e xs es =
      (λ t. set (es t) i (e t)) ∙ sym (ap (λ (k : ℕ). places_from f (take k os) 0 ops_most) (add-one i) ∙ one_more os i ops_most h g)

pub placed_more : (os : List Op) (i : ℕ) → i < length os → i < ops_most → (kind item : ℕ) (value : ℤ) → Operated (get_or os i no_op) kind item value → (kinds items : List ℕ) (values : List ℤ) → Placed (take i os) kinds items values
    → Placed (take (i + 1) os) (set kinds i kind) (set items i item) (set values i value)
placed_more os i h g kind item value o kinds items values p =
    record {
      kinds_are = more (λ x. x.kind) os i h g kind o.kind_is kinds p.kinds_are;
      items_are = more (λ x. x.item) os i h g item o.item_is items p.items_are;
      values_are = more (λ x. x.value) os i h g value o.value_is values p.values_are;
    }
