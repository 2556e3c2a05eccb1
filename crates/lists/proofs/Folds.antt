-- Laws of a value changed by one element after another: by a walk, and over two lists one behind the other.
use mathlib.Core.Path.{◌≡◌, refl, sym, ap, ◌∙◌}
use mathlib.Core.List.{List, [], ◌∷◌, ◌++◌}
use Prim.Native.Nat.{ℕ, suc, ◌+◌, ◌≤◌, ◌<◌}
use native.Mathlib.Numerals.{add-one}
use lib.ListN.{length, get_or, drop, drop_of_length-le}
use lib.Seq.{drop-cons}
use Rattle.lists.specs.Lists.{fold}

module _ {A B : Type 0} (f : B → A → B) where
  pub fold_more : (b : B) (xs ys : List A) → fold f b (xs ++ ys) ≡ fold f (fold f b xs) ys
  fold_more b [] ys = refl
  fold_more b (x ∷ xs) ys = fold_more (f b x) xs ys

  -- ---- the elements from i on are left
  module _ (all b : B) (xs : List A) (i : ℕ) (e : all ≡ fold f b (drop i xs)) where
    pub fold_next : (d : A) (c : B) → i < length xs → c ≡ f b (get_or xs i d) → all ≡ fold f c (drop (i + 1) xs)
    fold_next d c h is =
        e
        ∙ ap (fold f b) (drop-cons xs i d h)
        ∙ ap (λ (a : B). fold f a (drop (suc i) xs)) (sym is)
        ∙ ap (λ (k : ℕ). fold f c (drop k xs)) (sym (add-one i))

    pub fold_done : length xs ≤ i → b ≡ all
    fold_done h = sym (e ∙ ap (fold f b) (drop_of_length-le xs {i = i} h))
