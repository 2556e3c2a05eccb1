-- Elements taken by a test of their numbers: by two tests one after the other, by a test of the elements, and what holds of each and of each two.
use mathlib.Core.Path.{◌≡◌, refl, sym, ap, ap₂, subst, ◌∙◌}
use mathlib.Core.Bool.{Bool, true, false, cond, ◌&&◌, ◌||◌}
use mathlib.Core.List.{List, [], ◌∷◌}
use Prim.Native.Nat.{ℕ, zero, suc, ◌+◌, ◌<◌}
use native.Mathlib.Omega.{arith}
use native.Mathlib.Numerals.{add-one}
use lib.ListN.{length, get_or}
use Rattle.lists.specs.Lists.{some_below, keep, keep_from, count_below}
use Rattle.lists.proofs.Chains.{Each, Chain}

-- ---- a second test, of the numbers among those that pass the first
abbrev pub both_tests : (ℕ → Bool) → (ℕ → Bool) → ℕ → Bool
both_tests p q i = p i && q (count_below p i)

module _ (p q : ℕ → Bool) where
  pub count_twice : (k : ℕ) → count_below q (count_below p k) ≡ count_below (both_tests p q) k
  count_twice zero = refl
  count_twice (suc k) = go (p k) ∙ ap (λ (c : ℕ). c + cond (both_tests p q k) 1 0) (count_twice k)
    where
      c : ℕ
      c = count_below p k

      go : (b : Bool) → count_below q (c + cond b 1 0) ≡ count_below q c + cond (b && q c) 1 0
      go true = ap (count_below q) (add-one c)
      go false = let none : c + 0 ≡ c = omega arith in ap (count_below q) none ∙ omega arith

  pub some_twice : (k : ℕ) → some_below q (count_below p k) ≡ some_below (both_tests p q) k
  some_twice zero = refl
  some_twice (suc k) = go (p k) ∙ ap (λ (b : Bool). both_tests p q k || b) (some_twice k)
    where
      c : ℕ
      c = count_below p k

      go : (b : Bool) → some_below q (c + cond b 1 0) ≡ ((b && q c) || some_below q c)
      go true = ap (some_below q) (add-one c)
      go false = let none : c + 0 ≡ c = omega arith in ap (some_below q) none

  pub kept_twice : {A : Type 0} (k : ℕ) (xs : List A) → keep_from q (count_below p k) (keep_from p k xs) ≡ keep_from (both_tests p q) k xs
  kept_twice k [] = refl
  kept_twice {A = A} k (x ∷ xs) = go (p k) (kept_twice (suc k) xs)
    where
      c : ℕ
      c = count_below p k

      rest : List A
      rest = keep_from (both_tests p q) (suc k) xs

      go : (b : Bool) → keep_from q (c + cond b 1 0) (keep_from p (suc k) xs) ≡ rest
          → keep_from q c (cond b (x ∷ keep_from p (suc k) xs) (keep_from p (suc k) xs)) ≡ cond (b && q c) (x ∷ rest) rest
      go true r = ap (λ (l : List A). cond (q c) (x ∷ l) l) (ap (λ (m : ℕ). keep_from q m (keep_from p (suc k) xs)) (sym (add-one c)) ∙ r)
      go false r = let none : c ≡ c + 0 = omega arith in ap (λ (m : ℕ). keep_from q m (keep_from p (suc k) xs)) none ∙ r

-- ---- what holds of each element with its number, counted from k on
abbrev pub EachFrom : {A : Type 0} → (ℕ → A → Type 0) → ℕ → List A → Type 0
EachFrom P k [] = Unit {0}
EachFrom P k (x ∷ xs) = P k x × EachFrom P (suc k) xs

module _ {A : Type 0} where
  each_shifted : (P : ℕ → A → Type 0) (k : ℕ) (xs : List A) (d : A) → ((i : ℕ) → i < length xs → P (k + i) (get_or xs i d)) → EachFrom P k xs
  each_shifted P k [] d f = tt
  each_shifted P k (x ∷ xs) d f =
      let first : k + 0 ≡ k = omega arith in
      let next : (i : ℕ) → k + suc i ≡ suc k + i = λ i. omega arith in
      (subst (λ (j : ℕ). P j x) first (f 0 (omega arith)), each_shifted P (suc k) xs d (λ i l. subst (λ (j : ℕ). P j (get_or xs i d)) (next i) (f (suc i) (omega arith))))

  -- by the places
  pub each_from : (P : ℕ → A → Type 0) (xs : List A) (d : A) → ((i : ℕ) → i < length xs → P i (get_or xs i d)) → EachFrom P 0 xs
  each_from P xs d f =
      let same : (i : ℕ) → i ≡ 0 + i = λ i. omega arith in
      each_shifted P 0 xs d (λ i l. subst (λ (j : ℕ). P j (get_or xs i d)) (same i) (f i l))

  -- whatever the numbers
  each_anyhow : (P : A → Type 0) (Q : ℕ → A → Type 0) → ((i : ℕ) (x : A) → P x → Q i x) → (k : ℕ) (xs : List A) → Each P xs → EachFrom Q k xs
  each_anyhow P Q f k [] h = tt
  each_anyhow P Q f k (x ∷ xs) h = (f k x h.0, each_anyhow P Q f (suc k) xs h.1)

  -- ---- tests that agree
  pub kept_same : (p q : ℕ → Bool) (k : ℕ) (xs : List A) → EachFrom (λ i x. p i ≡ q i) k xs → keep_from p k xs ≡ keep_from q k xs
  kept_same p q k [] h = refl
  kept_same p q k (x ∷ xs) h = ap₂ {C = List A} (λ b l. cond b (x ∷ l) l) h.0 (kept_same p q (suc k) xs h.1)

  -- a test of the elements
  pub kept_by : (p : ℕ → Bool) (q : A → Bool) (k : ℕ) (xs : List A) → EachFrom (λ i x. p i ≡ q x) k xs → keep_from p k xs ≡ keep q xs
  kept_by p q k [] h = refl
  kept_by p q k (x ∷ xs) h = ap₂ {C = List A} (λ b l. cond b (x ∷ l) l) h.0 (kept_by p q (suc k) xs h.1)

  -- ---- what holds of those taken
  module _ (p : ℕ → Bool) where
    pub kept_each : (P : A → Type 0) (k : ℕ) (xs : List A) → EachFrom (λ i x. p i ≡ true → P x) k xs → Each P (keep_from p k xs)
    kept_each P k [] h = tt
    kept_each P k (x ∷ xs) h = go (p k) refl (kept_each P (suc k) xs h.1)
      where
        go : (b : Bool) → p k ≡ b → Each P (keep_from p (suc k) xs) → Each P (cond b (x ∷ keep_from p (suc k) xs) (keep_from p (suc k) xs))
        go true e r = (h.0 e, r)
        go false e r = r

    pub kept_none : (k : ℕ) (xs : List A) → EachFrom (λ i x. p i ≡ false) k xs → keep_from p k xs ≡ []
    kept_none k [] h = refl
    kept_none k (x ∷ xs) h = rw h.0 (kept_none (suc k) xs h.1)

    pub kept_chain : (R : A → A → Type 0) (k : ℕ) (xs : List A) → Chain R xs → Chain R (keep_from p k xs)
    kept_chain R k [] h = tt
    kept_chain R k (x ∷ xs) h = go (p k) (kept_chain R (suc k) xs h.1)
      where
        go : (b : Bool) → Chain R (keep_from p (suc k) xs) → Chain R (cond b (x ∷ keep_from p (suc k) xs) (keep_from p (suc k) xs))
        go true r = (kept_each (R x) (suc k) xs (each_anyhow (R x) (λ i y. p i ≡ true → R x y) (λ i y f e. f) (suc k) xs h.0), r)
        go false r = r
