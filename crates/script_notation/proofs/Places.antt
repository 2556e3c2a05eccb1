-- Laws of the fields of a line: the position of a byte by a walk, and the fields one after another by places.
use mathlib.Core.Path.{◌≡◌, refl, sym, ap, ◌∙◌}
use mathlib.Core.Bool.{Bool, true, false, cond, not}
use mathlib.Core.List.{List, [], ◌∷◌}
use Prim.Native.Nat.{ℕ, suc, ◌+◌, ◌-◌, ◌≤◌, ◌<◌}
use native.Mathlib.Omega.{arith}
use lib.ListN.{length, take, drop, length-drop}
use lib.Seq.{drop-drop}
use lib.Dec.{eqb, leb, leb-suc-suc}
use borrow.Author.Tests.{le-leb, lt-leb, leb-true, leb-false}
use Rattle.std.specs.List.{prefix_len}
use Rattle.std.proofs.lemmas.List.Recursion.{is_position_or_len}
use Rattle.script_notation.specs.Fields.{space, position, in_front, fields, fields_from}

pub place_within : (b : ℕ) (l : List ℕ) → position b l ≤ length l
unfolding position
place_within b [] = omega arith
place_within b (x ∷ xs) = go (eqb x b) (place_within b xs)
  where
    go : (t : Bool) → position b xs ≤ length xs → cond t 0 (suc (position b xs)) ≤ suc (length xs)
    go true h = omega arith
    go false h = omega arith

-- as many bytes as stand before it
pub place_is : (b : ℕ) (l : List ℕ) → position b l ≡ prefix_len (λ x. not (eqb x b)) l
unfolding position
place_is b l = is_position_or_len (position b) (λ x. eqb x b) refl (λ x xs. ap (λ (k : ℕ). cond (eqb x b) 0 k) (omega arith)) l

-- ---- the first field, and those behind it
-- with one byte more, which is a space or not
first_step : (x : ℕ) (xs : List ℕ) (t : Bool) → fields xs ≡ take (position space xs) xs ∷ fields_from xs (suc (position space xs))
    → cond t ([] ∷ fields xs) (in_front x (fields xs)) ≡ take (cond t 0 (suc (position space xs))) (x ∷ xs) ∷ fields_from (x ∷ xs) (suc (cond t 0 (suc (position space xs))))
first_step x xs true e = rw (le-leb 1 (suc (length xs)) (omega arith))
first_step x xs false e = ap (in_front x) e ∙ (rw (leb-suc-suc (suc (position space xs)) (length xs)))

pub fields_first : (l : List ℕ) → fields l ≡ take (position space l) l ∷ fields_from l (suc (position space l))
unfolding position fields
fields_first [] = refl
fields_first (x ∷ xs) = first_step x xs (eqb x space) (fields_first xs)

module _ (text : List ℕ) (from : ℕ) where
  rest_test : (k : ℕ) → from ≤ length text → leb k (length (drop from text)) ≡ leb (from + k) (length text)
  rest_test k h = go (leb (from + k) (length text)) refl
    where
      size : length (drop from text) ≡ length text - from
      size = length-drop from text

      go : (b : Bool) → leb (from + k) (length text) ≡ b → leb k (length (drop from text)) ≡ leb (from + k) (length text)
      go true e = let g : from + k ≤ length text = leb-true (from + k) (length text) e in le-leb k (length (drop from text)) (omega (arith, size)) ∙ sym e
      go false e = let g : length text < from + k = leb-false (from + k) (length text) e in lt-leb k (length (drop from text)) (omega (arith, size)) ∙ sym e

  rest_fields : (k : ℕ) → from ≤ length text → fields_from (drop from text) k ≡ fields_from text (from + k)
  rest_fields k h =
      ap (λ (b : Bool). cond b (fields (drop k (drop from text))) []) (rest_test k h)
      ∙ ap (λ (l : List ℕ). cond (leb (from + k) (length text)) (fields l) []) (drop-drop k from text)

  -- the field from a position on ends where the next space is
  module _ (end : ℕ) (e : end ≡ from + position space (drop from text)) where
    pub field_within : from ≤ length text → end ≤ length text
    field_within h = omega (arith, place_within space (drop from text), length-drop from text)

    pub field_next : from ≤ length text → fields_from text from ≡ take (end - from) (drop from text) ∷ fields_from text (end + 1)
    field_next h =
        let p = position space (drop from text) in
        let f : p ≡ end - from = omega arith in
        let g : from + suc p ≡ end + 1 = omega arith in
        ap (λ (b : Bool). cond b (fields (drop from text)) []) (le-leb from (length text) h)
        ∙ fields_first (drop from text)
        ∙ ap (λ (k : ℕ). take k (drop from text) ∷ fields_from (drop from text) (suc p)) f
        ∙ ap (λ (l : List (List ℕ)). take (end - from) (drop from text) ∷ l) (rest_fields (suc p) h ∙ ap (fields_from text) g)

  pub fields_end : length text < from → fields_from text from ≡ []
  fields_end h = rw (lt-leb from (length text) h)
