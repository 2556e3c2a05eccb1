-- Laws of the last element that passes a test, and of the elements before the first that does.
use mathlib.Core.Path.{◌≡◌, refl, ap, sym, ◌∙◌}
use mathlib.Core.Bool.{Bool, true, false, cond, ◌||◌, true≢false, false≢true}
use mathlib.Core.List.{List, [], ◌∷◌, ◌++◌}
use mathlib.Core.Logic.{◌⊎◌, inl, inr}
use mathlib.Core.Option.{Option, none, some, some-ne-none}
use lib.Dec.{ltb}
use Rattle.lists.specs.Lists.{any, before_first, or_else, last_of}
use Rattle.lists.proofs.Chains.{Each, Chain, each_implied}

-- of 0, 1 and 2 the last above 0 is 2
last_above_0 : last_of (ltb 0) (0 ∷ (1 ∷ (2 ∷ []))) ≡ some 2
last_above_0 = refl

-- what holds of the element that there is
abbrev pub OfSome : {A : Type 0} → (A → Type 0) → Option A → Type 0
OfSome P none = Unit {0}
OfSome P (some x) = P x

module _ {A : Type 0} (p : A → Bool) where
  -- ---- the last
  -- what holds of each holds of it
  pub last_each : (P : A → Type 0) (xs : List A) → Each P xs → OfSome P (last_of p xs)
  last_each P [] h = tt
  last_each P (x ∷ xs) h = go (last_of p xs) (last_each P xs h.1)
    where
      go : (o : Option A) → OfSome P o → OfSome P (or_else o (cond (p x) (some x) none))
      go (some y) r = r
      go none r = pick (p x)
        where
          pick : (b : Bool) → OfSome P (cond b (some x) none)
          pick true = h.0
          pick false = tt

  -- one element more
  pub last_more : (xs : List A) (y : A) → last_of p (xs ++ (y ∷ [])) ≡ cond (p y) (some y) (last_of p xs)
  last_more [] y = refl
  last_more (x ∷ xs) y = ap (λ (o : Option A). or_else o (cond (p x) (some x) none)) (last_more xs y) ∙ go (p y)
    where
      go : (b : Bool) → or_else (cond b (some y) (last_of p xs)) (cond (p x) (some x) none) ≡ cond b (some y) (or_else (last_of p xs) (cond (p x) (some x) none))
      go true = refl
      go false = refl

  -- where some element passes there is one
  pub some_last : (xs : List A) → any p xs ≡ true → last_of p xs ≡ none → ⊥
  some_last [] e f = false≢true e
  some_last (x ∷ xs) e f = go (last_of p xs) (p x) e f (some_last xs)
    where
      go : (o : Option A) (b : Bool) → (b || any p xs) ≡ true → or_else o (cond b (some x) none) ≡ none → (any p xs ≡ true → o ≡ none → ⊥) → ⊥
      go (some y) b e f rest = some-ne-none y f
      go none true e f rest = some-ne-none x f
      go none false e f rest = rest e refl

  -- it passes, and each other that does stands before it, in the order that the list is in
  module _ (R : A → A → Type 0) where
    abbrev pub Last : List A → Option A → Type 0
    Last xs none = Each (λ y. p y ≡ false) xs
    Last xs (some x) = (p x ≡ true) × Each (λ y. p y ≡ true → (y ≡ x) ⊎ R y x) xs

    pub last_is : (xs : List A) → Chain R xs → Last xs (last_of p xs)
    last_is [] h = tt
    last_is (x ∷ xs) h = go (last_of p xs) (last_each (R x) xs h.0) (last_is xs h.1)
      where
        go : (o : Option A) → OfSome (R x) o → Last xs o → Last (x ∷ xs) (or_else o (cond (p x) (some x) none))
        go (some y) first rest = (rest.0, ((λ e. inr first), rest.1))
        go none first rest = pick (p x) refl
          where
            pick : (b : Bool) → p x ≡ b → Last (x ∷ xs) (cond b (some x) none)
            pick true e = (e, ((λ f. inl refl), each_implied (λ y. p y ≡ false) (λ y. p y ≡ true → (y ≡ x) ⊎ R y x) (λ y f t. absurd (true≢false (sym t ∙ f))) xs rest))
            pick false e = (e, rest)

  -- ---- those before the first
  pub each_before : (P : A → Type 0) (xs : List A) → Each P xs → Each P (before_first p xs)
  each_before P [] h = tt
  each_before P (x ∷ xs) h = go (p x) (each_before P xs h.1)
    where
      go : (b : Bool) → Each P (before_first p xs) → Each P (cond b [] (x ∷ before_first p xs))
      go true r = tt
      go false r = (h.0, r)

  pub chain_before : (R : A → A → Type 0) (xs : List A) → Chain R xs → Chain R (before_first p xs)
  chain_before R [] h = tt
  chain_before R (x ∷ xs) h = go (p x) (chain_before R xs h.1)
    where
      go : (b : Bool) → Chain R (before_first p xs) → Chain R (cond b [] (x ∷ before_first p xs))
      go true r = tt
      go false r = (each_before (R x) xs h.0, r)
