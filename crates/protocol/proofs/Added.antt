-- Lists with an element added at the end, element by element.
use mathlib.Core.Path.{◌≡◌, refl, sym, subst}
use mathlib.Core.Bool.{Bool, true, false}
use mathlib.Core.List.{List, [], ◌∷◌, ◌++◌}
use Prim.Native.Nat.{ℕ, suc, ◌<◌}
use native.Mathlib.Omega.{arith}
use lib.ListN.{length, get_or, length-append, get_or-append}
use lib.Seq.{get_or-append_seam}
use lib.Dec.{ltb}
use borrow.Author.Tests.{ltb-true, ltb-false}

module _ {A : Type 0} (xs : List A) (y d : A) where
  pub added_size : length (xs ++ (y ∷ [])) ≡ suc (length xs)
  added_size = omega (arith, length-append xs (y ∷ []))

  pub added_old : (k : ℕ) → k < length xs → get_or (xs ++ (y ∷ [])) k d ≡ get_or xs k d
  added_old k l = get_or-append xs (y ∷ []) d k l

  pub added_new : get_or (xs ++ (y ∷ [])) (length xs) d ≡ y
  added_new = get_or-append_seam xs y [] d

  -- what holds of each element by its place, and of the new one
  pub added_each : (holds : ℕ → A → Type 0) → ((k : ℕ) → k < length xs → holds k (get_or xs k d)) → holds (length xs) y
      → (k : ℕ) → k < length (xs ++ (y ∷ [])) → holds k (get_or (xs ++ (y ∷ [])) k d)
  added_each holds f g k l = go (ltb k (length xs)) refl
    where
      go : (b : Bool) → ltb k (length xs) ≡ b → holds k (get_or (xs ++ (y ∷ [])) k d)
      go true e = let old = ltb-true k (length xs) e in subst (holds k) (sym (added_old k old)) (f k old)
      go false e =
          let new : length xs ≡ k = omega (arith, ltb-false k (length xs) e, added_size) in
          subst (λ (i : ℕ). holds i (get_or (xs ++ (y ∷ [])) i d)) new (subst (holds (length xs)) (sym added_new) g)

  -- what holds of each two in their order, and of each old one with the new
  pub added_rise : (before : A → A → Type 0) → ((a b : ℕ) → a < b → b < length xs → before (get_or xs a d) (get_or xs b d)) → ((a : ℕ) → a < length xs → before (get_or xs a d) y)
      → (a b : ℕ) → a < b → b < length (xs ++ (y ∷ [])) → before (get_or (xs ++ (y ∷ [])) a d) (get_or (xs ++ (y ∷ [])) b d)
  added_rise before f g a b l m =
      let old : a < length xs = omega (arith, added_size) in
      subst (λ (x : A). before x (get_or (xs ++ (y ∷ [])) b d)) (sym (added_old a old))
      (added_each (λ c x. a < c → before (get_or xs a d) x) (λ c h r. f a c r h) (λ r. g a old) b m l)
