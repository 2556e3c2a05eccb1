-- The first of the sorted is found by one walk, which keeps the former of two; and an element is inserted at the first place that it may have.
use mathlib.Core.Path.{◌≡◌, refl, sym, ap, ◌∙◌}
use mathlib.Core.Bool.{Bool, true, false, cond, true≢false}
use mathlib.Core.List.{List, [], ◌∷◌, ◌++◌}
use Prim.Native.Nat.{ℕ, zero, suc, ◌≤◌, ◌<◌}
use native.Mathlib.Omega.{arith}
use lib.ListN.{length, get_or, take, drop}
use Rattle.lists.specs.Lists.{before_first, fold}
use Rattle.lists.specs.Sorting.{insert, place_in, sorted, former}

module _ {A : Type 0} (before : A → A → Bool) where
  first_two : (x y d : A) (zs : List A) → get_or (insert before x (insert before y zs)) 0 d ≡ former before x (get_or (insert before y zs) 0 d)
  first_two x y d [] = go (before x y)
    where
      go : (b : Bool) → get_or (cond b (x ∷ (y ∷ [])) (y ∷ (x ∷ []))) 0 d ≡ cond b x y
      go true = refl
      go false = refl
  first_two x y d (z ∷ zs) = outer (before y z)
    where
      inner : (u : A) (us : List A) (b : Bool) → get_or (cond b (x ∷ (u ∷ us)) (u ∷ insert before x us)) 0 d ≡ cond b x u
      inner u us true = refl
      inner u us false = refl

      outer : (b : Bool) → get_or (insert before x (cond b (y ∷ (z ∷ zs)) (z ∷ insert before y zs))) 0 d ≡ former before x (get_or (cond b (y ∷ (z ∷ zs)) (z ∷ insert before y zs)) 0 d)
      outer true = inner y (z ∷ zs) (before x y)
      outer false = inner z (insert before y zs) (before x z)

  -- a test that goes along, and of any two lets one stand before the other
  module _ (along : (x y z : A) → before x y ≡ true → before y z ≡ true → before x z ≡ true) (either : (x y : A) → before x y ≡ false → before y x ≡ true) where
    former_three : (x y z : A) → former before x (former before y z) ≡ former before (former before x y) z
    former_three x y z = go (before x y) refl (before y z) refl
      where
        later : before x y ≡ false → before y z ≡ false → (c : Bool) → before x z ≡ c → cond c x z ≡ z
        later e f true g = absurd (true≢false (sym (along x z y g (either y z f)) ∙ e))
        later e f false g = refl

        go : (a : Bool) → before x y ≡ a → (b : Bool) → before y z ≡ b → former before x (cond b y z) ≡ former before (cond a x y) z
        go true e true f = rw (e, along x y z e f)
        go true e false f = refl
        go false e true f = rw (e, f)
        go false e false f = rw f (later e f (before x z) refl)

    former_fold : (x y : A) (zs : List A) → former before x (fold (former before) y zs) ≡ fold (former before) (former before x y) zs
    former_fold x y [] = refl
    former_fold x y (z ∷ zs) = former_fold x (former before y z) zs ∙ ap (λ (u : A). fold (former before) u zs) (former_three x y z)

    pub first_sorted : (d x : A) (ys : List A) → get_or (sorted before (x ∷ ys)) 0 d ≡ fold (former before) x ys
    first_sorted d x [] = refl
    first_sorted d x (y ∷ ys) = first_two x y d (sorted before ys) ∙ ap (former before x) (first_sorted d y ys) ∙ former_fold x y ys

  -- ---- where an element is inserted
  pub insert_placed : (x : A) (ys : List A) → insert before x ys ≡ take (place_in before x ys) ys ++ (x ∷ drop (place_in before x ys) ys)
  insert_placed x [] = refl
  insert_placed x (y ∷ ys) = go (before x y) (insert_placed x ys)
    where
      go : (b : Bool) → insert before x ys ≡ take (place_in before x ys) ys ++ (x ∷ drop (place_in before x ys) ys)
          → let p = length (cond b [] (y ∷ before_first (before x) ys)) in cond b (x ∷ (y ∷ ys)) (y ∷ insert before x ys) ≡ take p (y ∷ ys) ++ (x ∷ drop p (y ∷ ys))
      go true r = refl
      go false r = ap {B = List A} (λ l. y ∷ l) r

  -- it may stand before the element there, and before none that stands before it
  pub place_found : (x d : A) (ys : List A) (p : ℕ) → p ≤ length ys → ((a : ℕ) → a < p → before x (get_or ys a d) ≡ false) → (p < length ys → before x (get_or ys p d) ≡ true) → p ≡ place_in before x ys
  place_found x d [] p l f t = omega arith
  place_found x d (y ∷ ys) zero l f t = rw (t (omega arith))
  place_found x d (y ∷ ys) (suc p) l f t = rw (f 0 (omega arith)) (ap suc (place_found x d ys p (omega arith) (λ a m. f (suc a) (omega arith)) (λ m. t (omega arith))))

  pub place_within : (x : A) (ys : List A) → place_in before x ys ≤ length ys
  place_within x [] = omega arith
  place_within x (y ∷ ys) = go (before x y) (place_within x ys)
    where
      go : (b : Bool) → place_in before x ys ≤ length ys → length (cond b [] (y ∷ before_first (before x) ys)) ≤ suc (length ys)
      go true h = omega arith
      go false h = omega (arith, h)
