-- How often a number stands in a list: in one that is sorted, in the numbers that pass a test; and that two lists in one strict order with the same numbers are the same.
use mathlib.Core.Path.{◌≡◌, refl, sym, ap, ap₂, subst, ◌∙◌}
use mathlib.Core.Bool.{Bool, true, false, cond}
use mathlib.Core.List.{List, [], ◌∷◌}
use Prim.Native.Nat.{ℕ, zero, suc, ◌+◌, ◌≤◌, ◌<◌}
use native.Mathlib.Omega.{arith}
use lib.Dec.{eqb}
use borrow.Author.Tests.{eq-eqb, ne_eqb, eqb-true, eqb-false}
use Rattle.lists.specs.Lists.{keep, up_to, occurrences}
use Rattle.lists.specs.Sorting.{insert, sorted}
use Rattle.lists.proofs.Chains.{Each, Chain}

-- ---- sorting changes none
module _ (before : ℕ → ℕ → Bool) (j : ℕ) where
  occurrences_insert : (x : ℕ) (ys : List ℕ) → occurrences j (insert before x ys) ≡ occurrences j (x ∷ ys)
  occurrences_insert x [] = refl
  occurrences_insert x (y ∷ ys) = go (before x y) (occurrences_insert x ys)
    where
      go : (b : Bool) → occurrences j (insert before x ys) ≡ occurrences j (x ∷ ys) → occurrences j (cond b (x ∷ (y ∷ ys)) (y ∷ insert before x ys)) ≡ occurrences j (x ∷ (y ∷ ys))
      go true r = refl
      go false r = omega (arith, r)

  pub occurrences_sorted : (xs : List ℕ) → occurrences j (sorted before xs) ≡ occurrences j xs
  occurrences_sorted [] = refl
  occurrences_sorted (x ∷ xs) = occurrences_insert x (sorted before xs) ∙ ap (λ (m : ℕ). cond (eqb x j) 1 0 + m) (occurrences_sorted xs)

-- ---- the numbers from a on that pass a test
module _ (f : ℕ → Bool) (j : ℕ) where
  none_lower : (a m : ℕ) → j < a → occurrences j (keep f (up_to a m)) ≡ 0
  none_lower a zero h = refl
  none_lower a (suc m) h = go (f a) (none_lower (suc a) m (omega arith))
    where
      go : (b : Bool) → occurrences j (keep f (up_to (suc a) m)) ≡ 0 → occurrences j (cond b (a ∷ keep f (up_to (suc a) m)) (keep f (up_to (suc a) m))) ≡ 0
      go true r = rw (ne_eqb a j (λ e. omega arith)) (omega (arith, r))
      go false r = r

  pub once_kept : (a m : ℕ) → a ≤ j → (a + m ≤ j → f j ≡ false) → occurrences j (keep f (up_to a m)) ≡ cond (f j) 1 0
  once_kept a zero h past = sym (rw (past (omega arith)))
  once_kept a (suc m) h past = go (eqb a j) refl (λ g. once_kept (suc a) m g (λ l. past (omega arith)))
    where
      rest : List ℕ
      rest = keep f (up_to (suc a) m)

      here : (b : Bool) → a ≡ j → occurrences j rest ≡ 0 → occurrences j (cond b (a ∷ rest) rest) ≡ cond b 1 0
      here true e r = rw (eq-eqb a j e, r)
      here false e r = r

      other : (b : Bool) → (a ≡ j → ⊥) → occurrences j (cond b (a ∷ rest) rest) ≡ occurrences j rest
      other true e = rw (ne_eqb a j e) (omega arith)
      other false e = refl

      go : (b : Bool) → eqb a j ≡ b → (suc a ≤ j → occurrences j rest ≡ cond (f j) 1 0) → occurrences j (cond (f a) (a ∷ rest) rest) ≡ cond (f j) 1 0
      go true t next =
          let same : a ≡ j = eqb-true a j t in
          here (f a) same (none_lower (suc a) m (omega arith)) ∙ ap (λ (k : ℕ). cond (f k) 1 0) same
      go false t next =
          let apart = eqb-false a j t in
          other (f a) apart ∙ next (omega (arith, h, apart))

-- ---- a number that stands in a list has what each element has
pub each_standing : (P : ℕ → Type 0) (j : ℕ) (xs : List ℕ) → Each P xs → 0 < occurrences j xs → P j
each_standing P j [] h g = absurd (omega arith)
each_standing P j (x ∷ xs) h g = go (eqb x j) refl g (each_standing P j xs h.1)
  where
    go : (b : Bool) → eqb x j ≡ b → 0 < cond b 1 0 + occurrences j xs → (0 < occurrences j xs → P j) → P j
    go true t l rest = subst P (eqb-true x j t) h.0
    go false t l rest = rest (omega (arith, l))

-- ---- two lists in one order, in which no two numbers stand before each other
abbrev one : Bool → ℕ
one b = cond b 1 0

module _ (R : ℕ → ℕ → Type 0) (one_way : (x y : ℕ) → R x y → R y x → ⊥) where
  first_counts : (x : ℕ) (xs : List ℕ) → 0 < occurrences x (x ∷ xs)
  first_counts x xs = rw (eq-eqb x x refl) (omega arith)

  -- the first of another such list, where it is another number, stands behind the first
  behind : (x y : ℕ) (xs ys : List ℕ) → Chain R (x ∷ xs) → occurrences y (x ∷ xs) ≡ occurrences y (y ∷ ys) → (x ≡ y → ⊥) → R x y
  behind x y xs ys c e apart =
      let other : occurrences y (x ∷ xs) ≡ occurrences y xs = rw (ne_eqb x y apart) (omega arith) in
      each_standing (R x) y xs c.0 (omega (arith, other, e, first_counts y ys))

  pub same_order : (xs ys : List ℕ) → Chain R xs → Chain R ys → ((j : ℕ) → occurrences j xs ≡ occurrences j ys) → xs ≡ ys
  same_order [] [] c d e = refl
  same_order [] (y ∷ ys) c d e = absurd (omega (arith, e y, first_counts y ys))
  same_order (x ∷ xs) [] c d e = absurd (omega (arith, e x, first_counts x xs))
  same_order (x ∷ xs) (y ∷ ys) c d e = go (eqb x y) refl (same_order xs ys c.1 d.1)
    where
      go : (b : Bool) → eqb x y ≡ b → (((j : ℕ) → occurrences j xs ≡ occurrences j ys) → xs ≡ ys) → x ∷ xs ≡ y ∷ ys
      go true t rest =
          let same : x ≡ y = eqb-true x y t in
          ap₂ {C = List ℕ} (λ z zs. z ∷ zs) same (rest (λ j. omega (arith, e j, ap (λ (z : ℕ). one (eqb z j)) same)))
      go false t rest =
          let apart = eqb-false x y t in
          absurd (one_way x y (behind x y xs ys c (e y) apart) (behind y x ys xs d (sym (e x)) (λ z. apart (sym z))))
