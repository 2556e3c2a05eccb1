-- Laws of lists that are parsed one element after another.
use mathlib.Core.Path.{◌≡◌, refl, sym, ap, ◌∙◌}
use mathlib.Core.List.{List, [], ◌∷◌, ◌++◌, append-nil, append_assoc}
use mathlib.Core.Option.{Option, none, some}
use Prim.Native.Nat.{ℕ, zero, suc, ◌+◌, ◌-◌, ◌≤◌, ◌<◌, min}
use native.Mathlib.Omega.{arith}
use native.Mathlib.Numerals.{add-one}
use lib.ListN.{length, get_or, take, drop, set, length-drop}
use lib.Seq.{length-take-le, take-suc, take-suc-set}
use Rattle.lists.proofs.Lists.{take_min}
use Rattle.script_notation.specs.Fields.{space, position, fields_from}
use Rattle.script_notation.proofs.Places.{field_within, field_next, fields_end}
use Rattle.script_notation.specs.Parse.{on, cons_both, all}

module _ {B : Type 0} where
  -- what is done, in front of what is still to come
  abbrev pub ahead : List B → Option (List B) → Option (List B)
  ahead ys o = on o (λ zs. some (ys ++ zs))

  pub ahead_none : (o : Option (List B)) → ahead [] o ≡ o
  ahead_none none = refl
  ahead_none (some zs) = refl

  pub ahead_more : (ys : List B) (y : B) (o : Option (List B)) → ahead ys (cons_both (some y) o) ≡ ahead (ys ++ (y ∷ [])) o
  ahead_more ys y none = refl
  ahead_more ys y (some zs) = ap (λ (l : List B). some l) (sym (append_assoc ys (y ∷ []) zs))

module _ {A B : Type 0} (f : A → Option B) where
  pub all_next : (ys : List B) (x : A) (xs : List A) (y : B) → some y ≡ f x → ahead ys (all f (x ∷ xs)) ≡ ahead (ys ++ (y ∷ [])) (all f xs)
  unfolding all
  all_next ys x xs y e = ap (λ (o : Option B). ahead ys (cons_both o (all f xs))) (sym e) ∙ ahead_more ys y (all f xs)

  pub all_out : (ys : List B) (x : A) (xs : List A) → none ≡ f x → ahead ys (all f (x ∷ xs)) ≡ none
  unfolding all
  all_out ys x xs e = ap (λ (o : Option B). ahead ys (cons_both o (all f xs))) (sym e)

  pub all_end : (ys : List B) → ahead ys (all f []) ≡ some ys
  unfolding all
  all_end ys = ap (λ (l : List B). some l) (append-nil ys)

-- ---- a walk over the fields of a line, up to a position
module _ {B : Type 0} (f : List ℕ → Option B) (text : List ℕ) (at : ℕ) (ys : List B) (o : Option (List B)) (e : o ≡ ahead ys (all f (fields_from text at))) where
  module _ (h : at ≤ length text) (end : ℕ) (g : end ≡ at + position space (drop at text)) where
    opened : o ≡ ahead ys (all f (take (end - at) (drop at text) ∷ fields_from text (end + 1)))
    opened = e ∙ ap (λ (fs : List (List ℕ)). ahead ys (all f fs)) (field_next text at end g h)

    pub walk_out : none ≡ f (take (end - at) (drop at text)) → o ≡ none
    walk_out n = opened ∙ all_out f ys (take (end - at) (drop at text)) (fields_from text (end + 1)) n

    pub walk_next : (y : B) → some y ≡ f (take (end - at) (drop at text)) → o ≡ ahead (ys ++ (y ∷ [])) (all f (fields_from text (end + 1)))
    walk_next y n = opened ∙ all_next f ys (take (end - at) (drop at text)) (fields_from text (end + 1)) y n

    pub field_size : length (take (end - at) (drop at text)) ≡ end - at
    field_size = length-take-le (end - at) (drop at text) (omega (arith, length-drop at text, field_within text at end g h))

  pub walk_end : length text < at → o ≡ some ys
  walk_end h = e ∙ ap (λ (fs : List (List ℕ)). ahead ys (all f fs)) (fields_end text at h) ∙ all_end f ys

-- one element more behind the first n
pub take_more : {A : Type 0} (l : List A) (n : ℕ) (v : A) → n < length l → take (n + 1) (set l n v) ≡ take n l ++ (v ∷ [])
take_more l n v h = ap (λ (k : ℕ). take k (set l n v)) (add-one n) ∙ take-suc-set l n v h

-- the first i and the next
pub take_next : {A : Type 0} (l : List A) (i : ℕ) (d v : A) → i < length l → v ≡ get_or l i d → take (i + 1) l ≡ take i l ++ (v ∷ [])
take_next {A} l i d v h e = ap (λ (k : ℕ). take k l) (add-one i) ∙ take-suc l i d h ∙ ap (λ (x : A). take i l ++ (x ∷ [])) (sym e)

-- the first n, of a list of so many
pub take_least : {A : Type 0} (l : List A) (i n m : ℕ) → i ≡ min n m → length l ≡ m → take i l ≡ take n l
take_least l i n m e h = ap (λ (k : ℕ). take k l) (e ∙ ap (min n) (sym h)) ∙ take_min n l

-- the first n, behind the first n of what was there
pub take_front : {A : Type 0} (n : ℕ) (l b : List A) → take n (take n l ++ b) ≡ take n (l ++ b)
take_front zero l b = refl
take_front (suc n) [] b = refl
take_front (suc n) (x ∷ l) b = ap (λ (z : List _). x ∷ z) (take_front n l b)
