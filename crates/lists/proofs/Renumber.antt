-- Laws of the elements kept by their numbers: how many they are and where each stands among them; and a walk that moves them to the front.
use mathlib.Core.Path.{◌≡◌, refl, sym, ap, ap₂, ◌∙◌}
use mathlib.Core.Bool.{Bool, true, false, not, cond, ◌||◌}
use mathlib.Core.List.{List, [], ◌∷◌, ◌++◌, map, append-nil}
use Prim.Native.Nat.{ℕ, zero, suc, ◌+◌, ◌≤◌, ◌<◌}
use native.Mathlib.Omega.{arith}
use native.Mathlib.Numerals.{add-one}
use native.Mathlib.Nat.{add-zero}
use lib.ListN.{length, get_or, set, take, drop, length-set}
use lib.Seq.{take-suc, take-suc-set, drop-set-lt, drop-drop, get_or-drop, take_all, length-take-le}
use lib.Dec.{ltb}
use borrow.Author.Tests.{lt-ltb, ltb-true, ltb-false}
use Rattle.lists.specs.Lists.{every, some_below, keep_from, count_below}
use Rattle.lists.proofs.Every.{and_true}

-- ---- how many numbers pass
pub count_most : (p : ℕ → Bool) (k : ℕ) → count_below p k ≤ k
count_most p zero = omega arith
count_most p (suc k) = go (p k) (count_most p k)
  where
    go : (b : Bool) → count_below p k ≤ k → count_below p k + cond b 1 0 ≤ suc k
    go true h = omega arith
    go false h = omega arith

pub count_same : (p q : ℕ → Bool) (k : ℕ) → ((i : ℕ) → i < k → p i ≡ q i) → count_below p k ≡ count_below q k
count_same p q zero f = refl
count_same p q (suc k) f = rw (f k (omega arith), count_same p q k (λ i h. f i (omega arith)))

pub count_all : (p : ℕ → Bool) (k : ℕ) → ((i : ℕ) → i < k → p i ≡ true) → count_below p k ≡ k
count_all p zero f = refl
count_all p (suc k) f = rw (f k (omega arith)) (omega (arith, count_all p k (λ i h. f i (omega arith))))

-- those that pass and the others are all
pub count_both : (p : ℕ → Bool) (k : ℕ) → count_below p k + count_below (λ i. not (p i)) k ≡ k
count_both p zero = refl
count_both p (suc k) = go (p k) (count_both p k)
  where
    go : (b : Bool) → count_below p k + count_below (λ i. not (p i)) k ≡ k → count_below p k + cond b 1 0 + (count_below (λ i. not (p i)) k + cond (not b) 1 0) ≡ suc k
    go true h = omega arith
    go false h = omega arith

-- there are some where some number passes
pub count_some : (p : ℕ → Bool) (k : ℕ) → ltb 0 (count_below p k) ≡ some_below p k
count_some p zero = refl
count_some p (suc k) = go (p k) (count_some p k)
  where
    go : (b : Bool) → ltb 0 (count_below p k) ≡ some_below p k → ltb 0 (count_below p k + cond b 1 0) ≡ (b || some_below p k)
    go true rest = lt-ltb 0 (count_below p k + 1) (omega arith)
    go false rest = let same : count_below p k + 0 ≡ count_below p k = add-zero (count_below p k) in ap (ltb 0) same ∙ rest

-- one number more
pub count_next : (p : ℕ → Bool) (k : ℕ) (b : Bool) → p k ≡ b → count_below p (k + 1) ≡ count_below p k + cond b 1 0
count_next p k b e = ap (count_below p) (add-one k) ∙ ap (λ (t : Bool). count_below p k + cond t 1 0) e

-- one that passes counts from the next number on
pub count_rises : (p : ℕ → Bool) (k m : ℕ) → p k ≡ true → k < m → count_below p k < count_below p m
count_rises p k zero e h = absurd (omega arith)
count_rises p k (suc m) e h = go (ltb k m) refl (count_rises p k m e)
  where
    go : (b : Bool) → ltb k m ≡ b → (k < m → count_below p k < count_below p m) → count_below p k < count_below p (suc m)
    go true t rest = omega (arith, rest (ltb-true k m t))
    go false t rest =
        let same : m ≡ k = omega (arith, ltb-false k m t) in
        omega (arith, ap (λ (b : Bool). cond {A = ℕ} b 1 0) (ap p same ∙ e), ap (count_below p) same)

-- counted from the front
count_front : (p : ℕ → Bool) (k : ℕ) → count_below p (suc k) ≡ cond {A = ℕ} (p 0) 1 0 + count_below (λ i. p (suc i)) k
count_front p zero = omega arith
count_front p (suc k) =
    let rest = count_front p k in
    omega arith

-- ---- the elements whose numbers pass
module _ {A : Type 0} where
  -- numbers counted from one higher are those of the test of the next number
  keep_shift : (p : ℕ → Bool) (i : ℕ) (xs : List A) → keep_from p (suc i) xs ≡ keep_from (λ j. p (suc j)) i xs
  keep_shift p i [] = refl
  keep_shift p i (x ∷ xs) = ap (λ (ys : List A). cond (p (suc i)) (x ∷ ys) ys) (keep_shift p (suc i) xs)

  pub keep_length : (p : ℕ → Bool) (xs : List A) → length (keep_from p 0 xs) ≡ count_below p (length xs)
  keep_length p [] = refl
  keep_length p (x ∷ xs) = go (p 0) (ap length (keep_shift p 0 xs) ∙ keep_length (λ j. p (suc j)) xs) ∙ sym (count_front p (length xs))
    where
      go : (b : Bool) → length (keep_from p 1 xs) ≡ count_below (λ j. p (suc j)) (length xs) → length (cond b (x ∷ keep_from p 1 xs) (keep_from p 1 xs)) ≡ cond {A = ℕ} b 1 0 + count_below (λ j. p (suc j)) (length xs)
      go true e = omega arith
      go false e = omega arith

  -- one that passes stands behind those before it that pass
  pub keep_at : (p : ℕ → Bool) (xs : List A) (k : ℕ) (d : A) → k < length xs → p k ≡ true → get_or (keep_from p 0 xs) (count_below p k) d ≡ get_or xs k d
  keep_at p [] k d h e = absurd (omega arith)
  keep_at p (x ∷ xs) zero d h e = rw e
  keep_at p (x ∷ xs) (suc k) d h e =
      ap (λ (j : ℕ). get_or (keep_from p 0 (x ∷ xs)) j d) (count_front p k)
      ∙ go (p 0) (ap (λ (ys : List A). get_or ys (count_below (λ j. p (suc j)) k) d) (keep_shift p 0 xs) ∙ keep_at (λ j. p (suc j)) xs k d (omega arith) e)
    where
      first : suc (count_below (λ j. p (suc j)) k) ≡ 1 + count_below (λ j. p (suc j)) k
      first = omega arith

      same : count_below (λ j. p (suc j)) k ≡ 0 + count_below (λ j. p (suc j)) k
      same = omega arith

      go : (b : Bool) → get_or (keep_from p 1 xs) (count_below (λ j. p (suc j)) k) d ≡ get_or xs k d → get_or (cond b (x ∷ keep_from p 1 xs) (keep_from p 1 xs)) (cond {A = ℕ} b 1 0 + count_below (λ j. p (suc j)) k) d ≡ get_or xs k d
      go true rest = ap (λ (j : ℕ). get_or (x ∷ keep_from p 1 xs) j d) (sym first) ∙ rest
      go false rest = ap (λ (j : ℕ). get_or (keep_from p 1 xs) j d) (sym same) ∙ rest

  pub keep_every : (q : A → Bool) (p : ℕ → Bool) (i : ℕ) (xs : List A) → every q xs ≡ true → every q (keep_from p i xs) ≡ true
  keep_every q p i [] e = refl
  keep_every q p i (x ∷ xs) e = let both = and_true (q x) (every q xs) e in go (p i) both.0 (keep_every q p (suc i) xs both.1)
    where
      go : (b : Bool) → q x ≡ true → every q (keep_from p (suc i) xs) ≡ true → every q (cond b (x ∷ keep_from p (suc i) xs) (keep_from p (suc i) xs)) ≡ true
      go true f rest = rw f rest
      go false f rest = rest

  -- one element more
  keep_snoc : (p : ℕ → Bool) (i : ℕ) (xs : List A) (y : A) → keep_from p i (xs ++ (y ∷ [])) ≡ keep_from p i xs ++ cond (p (i + length xs)) (y ∷ []) []
  keep_snoc p i [] y = let first : i + 0 ≡ i = omega arith in ap (λ (j : ℕ). cond {A = List A} (p j) (y ∷ []) []) (sym first)
  keep_snoc p i (x ∷ xs) y =
      let next : suc i + length xs ≡ i + suc (length xs) = omega arith in
      let last = cond {A = List A} (p (i + suc (length xs))) (y ∷ []) [] in
      go (p i) (keep_snoc p (suc i) xs y ∙ ap (λ (j : ℕ). keep_from p (suc i) xs ++ cond (p j) (y ∷ []) []) next)
    where
      go : (b : Bool) → keep_from p (suc i) (xs ++ (y ∷ [])) ≡ keep_from p (suc i) xs ++ cond (p (i + suc (length xs))) (y ∷ []) []
          → cond b (x ∷ keep_from p (suc i) (xs ++ (y ∷ []))) (keep_from p (suc i) (xs ++ (y ∷ []))) ≡ cond b (x ∷ keep_from p (suc i) xs) (keep_from p (suc i) xs) ++ cond (p (i + suc (length xs))) (y ∷ []) []
      go true rest = ap {B = List A} (λ ys. x ∷ ys) rest
      go false rest = rest

  pub keep_add : (p : ℕ → Bool) (xs : List A) (y : A) → keep_from p 0 (xs ++ (y ∷ [])) ≡ keep_from p 0 xs ++ cond (p (length xs)) (y ∷ []) []
  keep_add p xs y = let same : 0 + length xs ≡ length xs = omega arith in keep_snoc p 0 xs y ∙ ap (λ (m : ℕ). keep_from p 0 xs ++ cond (p m) (y ∷ []) []) same

pub keep_map : {A B : Type 0} (f : A → B) (p : ℕ → Bool) (i : ℕ) (xs : List A) → map f (keep_from p i xs) ≡ keep_from p i (map f xs)
keep_map f p i [] = refl
keep_map {B = B} f p i (x ∷ xs) = go (p i) (keep_map f p (suc i) xs)
  where
    go : (b : Bool) → map f (keep_from p (suc i) xs) ≡ keep_from p (suc i) (map f xs) → map f (cond b (x ∷ keep_from p (suc i) xs) (keep_from p (suc i) xs)) ≡ cond b (f x ∷ keep_from p (suc i) (map f xs)) (keep_from p (suc i) (map f xs))
    go true rest = ap {B = List B} (λ ys. f x ∷ ys) rest
    go false rest = rest

-- ---- by a walk: of the elements below k those that pass have been moved to the front, and the others are as they were
pub record KeptBelow {A : Type 0} (p : ℕ → Bool) (all now : List A) (k kept : ℕ) : Type 0 where
  pub front : take kept now ≡ keep_from p 0 (take k all)
  pub rest : drop k now ≡ drop k all
  pub sized : length now ≡ length all
  pub count : kept ≡ count_below p k

module _ {A : Type 0} (p : ℕ → Bool) (all : List A) where
  pub kept_none : KeptBelow p all all 0 0
  kept_none = record { front = refl; rest = refl; sized = refl; count = refl }

  module _ (now : List A) (k kept : ℕ) (s : KeptBelow p all now k kept) where
    rest_next : drop (k + 1) now ≡ drop (k + 1) all
    rest_next = sym (drop-drop 1 k now) ∙ ap (drop 1) s.rest ∙ drop-drop 1 k all

    pub kept_all : length all ≤ k → take kept now ≡ keep_from p 0 all
    kept_all h = s.front ∙ ap (keep_from p 0) (take_all k all h)

    module _ (d : A) (h : k < length all) where
      more : keep_from p 0 (take (k + 1) all) ≡ keep_from p 0 (take k all) ++ cond (p k) (get_or all k d ∷ []) []
      more =
          let here : length (take k all) ≡ k = length-take-le k all (omega arith) in
          ap (λ (j : ℕ). keep_from p 0 (take j all)) (add-one k)
          ∙ ap (keep_from p 0) (take-suc all k d h)
          ∙ keep_add p (take k all) (get_or all k d)
          ∙ ap (λ (j : ℕ). keep_from p 0 (take k all) ++ cond (p j) (get_or all k d ∷ []) []) here

      pub kept_over : p k ≡ false → KeptBelow p all now (k + 1) kept
      kept_over e =
          record {
            front = s.front ∙ sym (more ∙ ap (λ (b : Bool). keep_from p 0 (take k all) ++ cond b (get_or all k d ∷ []) []) e ∙ append-nil (keep_from p 0 (take k all)));
            rest = rest_next;
            sized = s.sized;
            count = omega (arith, count_next p k false e, s.count);
          }

      pub kept_moved : p k ≡ true → KeptBelow p all (set now kept (get_or now k d)) (k + 1) (kept + 1)
      kept_moved e =
          let low : kept ≤ k = omega (arith, count_most p k, s.count) in
          let here : get_or now k d ≡ get_or all k d
          = ap (λ (j : ℕ). get_or now j d) (sym (add-zero k)) ∙ sym (get_or-drop k now 0 d) ∙ ap (λ (xs : List A). get_or xs 0 d) s.rest ∙ get_or-drop k all 0 d ∙ ap (λ (j : ℕ). get_or all j d) (add-zero k) in
          record {
            front = ap (λ (j : ℕ). take j (set now kept (get_or now k d))) (add-one kept)
                ∙ take-suc-set now kept (get_or now k d) (omega (arith, s.sized))
                ∙ ap₂ (λ (xs : List A) (x : A). xs ++ (x ∷ [])) s.front here
                ∙ sym (more ∙ ap (λ (b : Bool). keep_from p 0 (take k all) ++ cond b (get_or all k d ∷ []) []) e);
            rest = drop-set-lt (k + 1) now kept (get_or now k d) (omega arith) ∙ rest_next;
            sized = length-set now kept (get_or now k d) ∙ s.sized;
            count = omega (arith, count_next p k true e, s.count);
          }
