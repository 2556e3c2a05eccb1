-- Two lists of one length, element with element.
use mathlib.Core.Path.{◌≡◌, refl, ap, subst}
use mathlib.Core.Bool.{Bool, true, false, cond}
use mathlib.Core.List.{List, [], ◌∷◌, ◌++◌}
use Prim.Native.Nat.{ℕ, zero, suc, ◌<◌}
use native.Mathlib.Omega.{arith}
use lib.ListN.{length, get_or}
use Rattle.lists.specs.Lists.{keep}
use Rattle.lists.specs.Sorting.{insert, sorted}

abbrev pub Matched : {A : Type 0} → (A → A → Type 0) → List A → List A → Type 0
Matched R [] [] = Unit {0}
Matched R [] (y ∷ ys) = ⊥
Matched R (x ∷ xs) [] = ⊥
Matched R (x ∷ xs) (y ∷ ys) = R x y × Matched R xs ys

module _ {A : Type 0} (R : A → A → Type 0) where
  pub matched_length : (xs ys : List A) → Matched R xs ys → length xs ≡ length ys
  matched_length [] [] m = refl
  matched_length [] (y ∷ ys) m = absurd m
  matched_length (x ∷ xs) [] m = absurd m
  matched_length (x ∷ xs) (y ∷ ys) m = ap suc (matched_length xs ys m.1)

  pub matched_at : (xs ys : List A) (k : ℕ) (d : A) → Matched R xs ys → k < length xs → R (get_or xs k d) (get_or ys k d)
  matched_at [] [] k d m l = absurd (omega arith)
  matched_at [] (y ∷ ys) k d m l = absurd m
  matched_at (x ∷ xs) [] k d m l = absurd m
  matched_at (x ∷ xs) (y ∷ ys) zero d m l = m.0
  matched_at (x ∷ xs) (y ∷ ys) (suc k) d m l = matched_at xs ys k d m.1 (omega arith)

  pub matched_add : (xs ys : List A) (x y : A) → Matched R xs ys → R x y → Matched R (xs ++ (x ∷ [])) (ys ++ (y ∷ []))
  matched_add [] [] x y m e = (e, tt)
  matched_add [] (v ∷ ys) x y m e = absurd m
  matched_add (u ∷ xs) [] x y m e = absurd m
  matched_add (u ∷ xs) (v ∷ ys) x y m e = (m.0, matched_add xs ys x y m.1 e)

  -- those that pass a test that does not tell them apart
  pub matched_keep : (p : A → Bool) → ((x y : A) → R x y → p x ≡ p y) → (xs ys : List A) → Matched R xs ys → Matched R (keep p xs) (keep p ys)
  matched_keep p same [] [] m = tt
  matched_keep p same [] (y ∷ ys) m = absurd m
  matched_keep p same (x ∷ xs) [] m = absurd m
  matched_keep p same (x ∷ xs) (y ∷ ys) m =
      subst (λ (b : Bool). Matched R (keep p (x ∷ xs)) (cond b (y ∷ keep p ys) (keep p ys))) (same x y m.0) (go (p x) (matched_keep p same xs ys m.1))
    where
      go : (b : Bool) → Matched R (keep p xs) (keep p ys) → Matched R (cond b (x ∷ keep p xs) (keep p xs)) (cond b (y ∷ keep p ys) (keep p ys))
      go true r = (m.0, r)
      go false r = r

  -- the sorted ones, by a test that does not tell them apart
  module _ (before : A → A → Bool) (same : (x y u v : A) → R x y → R u v → before x u ≡ before y v) where
    matched_insert : (x y : A) (us vs : List A) → R x y → Matched R us vs → Matched R (insert before x us) (insert before y vs)
    matched_insert x y [] [] e m = (e, tt)
    matched_insert x y [] (v ∷ vs) e m = absurd m
    matched_insert x y (u ∷ us) [] e m = absurd m
    matched_insert x y (u ∷ us) (v ∷ vs) e m =
        subst (λ (b : Bool). Matched R (insert before x (u ∷ us)) (cond b (y ∷ (v ∷ vs)) (v ∷ insert before y vs))) (same x y u v e m.0)
        (go (before x u) (matched_insert x y us vs e m.1))
      where
        go : (b : Bool) → Matched R (insert before x us) (insert before y vs) → Matched R (cond b (x ∷ (u ∷ us)) (u ∷ insert before x us)) (cond b (y ∷ (v ∷ vs)) (v ∷ insert before y vs))
        go true r = (e, m)
        go false r = (m.0, r)

    pub matched_sorted : (xs ys : List A) → Matched R xs ys → Matched R (sorted before xs) (sorted before ys)
    matched_sorted [] [] m = tt
    matched_sorted [] (y ∷ ys) m = absurd m
    matched_sorted (x ∷ xs) [] m = absurd m
    matched_sorted (x ∷ xs) (y ∷ ys) m = matched_insert x y (sorted before xs) (sorted before ys) m.0 (matched_sorted xs ys m.1)
