-- Laws of the stable sort: what inserting and sorting keep, and that leaving some out first or afterwards comes to the same.
use mathlib.Core.Path.{◌≡◌, refl, ap, ap₂, sym, ◌∙◌}
use mathlib.Core.Bool.{Bool, true, false, cond, ◌||◌}
use mathlib.Core.List.{List, [], ◌∷◌}
use Prim.Native.Nat.{suc}
use lib.ListN.{length}
use Rattle.lists.specs.Lists.{any, keep}
use Rattle.lists.specs.Sorting.{insert, sorted}
use Rattle.lists.proofs.Chains.{Each, Chain, chain_all, each_implied, each_keep}

module _ {A : Type 0} (before : A → A → Bool) where
  -- ---- as many elements
  pub length_insert : (x : A) (ys : List A) → length (insert before x ys) ≡ suc (length ys)
  length_insert x [] = refl
  length_insert x (y ∷ ys) = go (before x y) (length_insert x ys)
    where
      go : (b : Bool) → length (insert before x ys) ≡ suc (length ys) → length (cond b (x ∷ (y ∷ ys)) (y ∷ insert before x ys)) ≡ suc (suc (length ys))
      go true r = refl
      go false r = ap suc r

  pub length_sorted : (xs : List A) → length (sorted before xs) ≡ length xs
  length_sorted [] = refl
  length_sorted (x ∷ xs) = length_insert x (sorted before xs) ∙ ap suc (length_sorted xs)

  -- ---- what holds of each element
  module _ (P : A → Type 0) where
    pub each_insert : (x : A) (ys : List A) → P x → Each P ys → Each P (insert before x ys)
    each_insert x [] p q = (p, tt)
    each_insert x (y ∷ ys) p q = go (before x y) (each_insert x ys p q.1)
      where
        go : (b : Bool) → Each P (insert before x ys) → Each P (cond b (x ∷ (y ∷ ys)) (y ∷ insert before x ys))
        go true r = (p, q)
        go false r = (q.0, r)

    pub each_sorted : (xs : List A) → Each P xs → Each P (sorted before xs)
    each_sorted [] h = tt
    each_sorted (x ∷ xs) h = each_insert x (sorted before xs) h.0 (each_sorted xs h.1)

  -- ---- whether some element passes a test
  module _ (p : A → Bool) where
    any_insert : (x : A) (ys : List A) → any p (insert before x ys) ≡ any p (x ∷ ys)
    any_insert x [] = refl
    any_insert x (y ∷ ys) = go (before x y) (any_insert x ys)
      where
        turn : (a b r : Bool) → (b || (a || r)) ≡ (a || (b || r))
        turn true true r = refl
        turn true false r = refl
        turn false b r = refl

        go : (b : Bool) → any p (insert before x ys) ≡ any p (x ∷ ys) → any p (cond b (x ∷ (y ∷ ys)) (y ∷ insert before x ys)) ≡ any p (x ∷ (y ∷ ys))
        go true r = refl
        go false r = ap (λ (b : Bool). p y || b) r ∙ turn (p x) (p y) (any p ys)

    pub any_sorted : (xs : List A) → any p (sorted before xs) ≡ any p xs
    any_sorted [] = refl
    any_sorted (x ∷ xs) = any_insert x (sorted before xs) ∙ ap (λ (b : Bool). p x || b) (any_sorted xs)

  -- ---- what holds of each element with those after it: R, where R holds of any two the way that they are put
  module _ (R : A → A → Type 0) (trans : (x y z : A) → R x y → R y z → R x z) where
    abbrev pub Placed : A → A → Type 0
    Placed x y = (before x y ≡ true → R x y) × (before x y ≡ false → R y x)

    chain_insert : (x : A) (ys : List A) → Each (Placed x) ys → Chain R ys → Chain R (insert before x ys)
    chain_insert x [] p q = (tt, tt)
    chain_insert x (y ∷ ys) p q = go (before x y) refl (chain_insert x ys p.1 q.1)
      where
        go : (b : Bool) → before x y ≡ b → Chain R (insert before x ys) → Chain R (cond b (x ∷ (y ∷ ys)) (y ∷ insert before x ys))
        go true e r = let first = p.0.0 e in ((first, each_implied (R y) (R x) (λ z. trans x y z first) ys q.0), q)
        go false e r = (each_insert (R y) x ys (p.0.1 e) q.0, r)

    pub chain_sorted : (xs : List A) → Chain Placed xs → Chain R (sorted before xs)
    chain_sorted [] h = tt
    chain_sorted (x ∷ xs) h = chain_insert x (sorted before xs) (each_sorted (Placed x) xs h.0) (chain_sorted xs h.1)

  -- ---- the elements in order
  abbrev pub InOrder : A → A → Type 0
  InOrder x y = before x y ≡ true

  insert_first : (x : A) (ys : List A) → Each (InOrder x) ys → insert before x ys ≡ x ∷ ys
  insert_first x [] h = refl
  insert_first x (y ∷ ys) h = rw h.0

  -- those in order are left as they are
  pub sorted_same : (xs : List A) → Chain InOrder xs → sorted before xs ≡ xs
  sorted_same [] h = refl
  sorted_same (x ∷ xs) h = ap (insert before x) (sorted_same xs h.1) ∙ insert_first x xs h.0

  -- a test that goes along, and of any two lets one stand before the other
  module _ (along : (x y z : A) → InOrder x y → InOrder y z → InOrder x z) (either : (x y : A) → before x y ≡ false → InOrder y x) where
    pub in_order : (xs : List A) → Chain InOrder (sorted before xs)
    in_order xs = chain_sorted InOrder along xs (chain_all _ (λ x y. (λ h. h, either x y)) xs)

    -- ---- those that pass a test, of the sorted
    module _ (p : A → Bool) where
      keep_insert : (x : A) (ys : List A) → Chain InOrder ys → keep p (insert before x ys) ≡ cond (p x) (insert before x (keep p ys)) (keep p ys)
      keep_insert x [] h = refl
      keep_insert x (y ∷ ys) h = go (before x y) refl (keep_insert x ys h.1)
        where
          both : (a b : Bool) → before x y ≡ false
              → cond b (y ∷ cond a (insert before x (keep p ys)) (keep p ys)) (cond a (insert before x (keep p ys)) (keep p ys))
              ≡ cond a (insert before x (cond b (y ∷ keep p ys) (keep p ys))) (cond b (y ∷ keep p ys) (keep p ys))
          both true true e = sym (rw e)
          both true false e = refl
          both false true e = refl
          both false false e = refl

          go : (b : Bool) → before x y ≡ b → keep p (insert before x ys) ≡ cond (p x) (insert before x (keep p ys)) (keep p ys)
              → keep p (cond b (x ∷ (y ∷ ys)) (y ∷ insert before x ys)) ≡ cond (p x) (insert before x (keep p (y ∷ ys))) (keep p (y ∷ ys))
          go true e r =
              let next = each_implied (InOrder y) (λ z. p z ≡ true → InOrder x z) (λ z q t. along x y z e q) ys h.0 in
              ap (λ (l : List A). cond (p x) l (keep p (y ∷ ys))) (sym (insert_first x (keep p (y ∷ ys)) (each_keep p (InOrder x) (y ∷ ys) (λ t. e, next))))
          go false e r = ap {B = List A} (λ l. cond (p y) (y ∷ l) l) r ∙ both (p x) (p y) e

      pub keep_sorted : (xs : List A) → keep p (sorted before xs) ≡ sorted before (keep p xs)
      keep_sorted [] = refl
      keep_sorted (x ∷ xs) = keep_insert x (sorted before xs) (in_order xs) ∙ ap (λ (l : List A). cond (p x) (insert before x l) l) (keep_sorted xs) ∙ go (p x)
        where
          go : (b : Bool) → cond b (insert before x (sorted before (keep p xs))) (sorted before (keep p xs)) ≡ sorted before (cond b (x ∷ keep p xs) (keep p xs))
          go true = refl
          go false = refl

      -- those that pass a test and are in order already stay as they are
      pub stable : (xs : List A) → Chain InOrder (keep p xs) → keep p (sorted before xs) ≡ keep p xs
      stable xs h = keep_sorted xs ∙ sorted_same (keep p xs) h

-- ---- two tests that agree on the elements sort them alike
module _ {A : Type 0} (before first : A → A → Bool) where
  insert_alike : (x : A) (ys : List A) → Each (λ y. before x y ≡ first x y) ys → insert before x ys ≡ insert first x ys
  insert_alike x [] h = refl
  insert_alike x (y ∷ ys) h = ap₂ {C = List A} (λ b l. cond b (x ∷ (y ∷ ys)) (y ∷ l)) h.0 (insert_alike x ys h.1)

  pub sorted_alike : (xs : List A) → Chain (λ x y. before x y ≡ first x y) xs → sorted before xs ≡ sorted first xs
  sorted_alike [] h = refl
  sorted_alike (x ∷ xs) h = insert_alike x (sorted before xs) (each_sorted before (λ y. before x y ≡ first x y) xs h.0) ∙ ap (insert first x) (sorted_alike xs h.1)
