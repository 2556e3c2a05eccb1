-- Laws of a test that each element of a list passes: by a walk, by its place, of a longer and a shorter list.
use mathlib.Core.Path.{◌≡◌, refl, sym, ap, ◌∙◌}
use mathlib.Core.Bool.{Bool, true, false, ◌&&◌, false≢true}
use mathlib.Core.List.{List, [], ◌∷◌, ◌++◌}
use Prim.Native.Nat.{ℕ, zero, suc, ◌+◌, ◌≤◌, ◌<◌}
use native.Mathlib.Omega.{arith}
use native.Mathlib.Numerals.{add-one}
use lib.ListN.{length, get_or, set, take, drop, drop_of_length-le}
use lib.Seq.{drop-cons}
use Rattle.lists.specs.Lists.{every, every_from}

-- ---- a test of each element, by a walk that leaves at the first that fails
pub and_true : (a b : Bool) → (a && b) ≡ true → (a ≡ true) × (b ≡ true)
and_true true b e = (refl, e)
and_true false b e = absurd (false≢true e)

module _ {A : Type 0} (p : A → Bool) (l : List A) (i : ℕ) (d : A) (e : every p l ≡ every p (drop i l)) where
  every_step : i < length l → every p (drop i l) ≡ (p (get_or l i d) && every p (drop (suc i) l))
  every_step h = rw (drop-cons l i d h)

  pub every_false : i < length l → p (get_or l i d) ≡ false → every p l ≡ false
  every_false h q = e ∙ every_step h ∙ ap (λ (b : Bool). b && every p (drop (suc i) l)) q

  pub every_next : i < length l → p (get_or l i d) ≡ true → every p l ≡ every p (drop (i + 1) l)
  every_next h q =
      e ∙ every_step h ∙ ap (λ (b : Bool). b && every p (drop (suc i) l)) q ∙ ap (λ (k : ℕ). every p (drop k l)) (sym (add-one i))

  pub every_done : length l ≤ i → every p l ≡ true
  every_done h = e ∙ ap (every p) (drop_of_length-le l {i = i} h)

-- ---- a test that each element of a list passes, of a longer and a shorter list
module _ {A : Type 0} (p : A → Bool) where
  pub every_snoc : (xs : List A) (y : A) → every p xs ≡ true → p y ≡ true → every p (xs ++ (y ∷ [])) ≡ true
  every_snoc [] y e f = rw f
  every_snoc (x ∷ xs) y e f = let q = and_true (p x) (every p xs) e in rw q.0 (every_snoc xs y q.1 f)

  pub every_rest : (xs : List A) → every p xs ≡ true → every p (drop 1 xs) ≡ true
  every_rest [] e = refl
  every_rest (x ∷ xs) e = (and_true (p x) (every p xs) e).1

  pub every_take : (n : ℕ) (xs : List A) → every p xs ≡ true → every p (take n xs) ≡ true
  every_take zero xs e = refl
  every_take (suc n) [] e = refl
  every_take (suc n) (x ∷ xs) e = let q = and_true (p x) (every p xs) e in rw q.0 (every_take n xs q.1)

  pub every_at : (xs : List A) (i : ℕ) (d : A) → every p xs ≡ true → i < length xs → p (get_or xs i d) ≡ true
  every_at [] i d e h = absurd (omega arith)
  every_at (x ∷ xs) zero d e h = (and_true (p x) (every p xs) e).0
  every_at (x ∷ xs) (suc i) d e h = every_at xs i d (and_true (p x) (every p xs) e).1 (omega arith)

  pub every_set : (xs : List A) (i : ℕ) (y : A) → every p xs ≡ true → p y ≡ true → every p (set xs i y) ≡ true
  every_set [] i y e f = refl
  every_set (x ∷ xs) zero y e f = rw f (and_true (p x) (every p xs) e).1
  every_set (x ∷ xs) (suc i) y e f = let q = and_true (p x) (every p xs) e in rw q.0 (every_set xs i y q.1 f)

-- ---- a test that each element passes, by its place
pub every_all : {A : Type 0} (p : A → Bool) (xs : List A) (d : A) → ((k : ℕ) → k < length xs → p (get_or xs k d) ≡ true) → every p xs ≡ true
every_all p [] d f = refl
every_all p (x ∷ xs) d f = rw (f zero (omega arith)) (every_all p xs d (λ k h. f (suc k) (omega arith)))

-- ---- a test of each element by its number, counted from i on
module _ {A : Type 0} (p : ℕ → A → Bool) where
  pub from_all : (i : ℕ) (xs : List A) (d : A) → ((k : ℕ) → k < length xs → p (i + k) (get_or xs k d) ≡ true) → every_from p i xs ≡ true
  from_all i [] d f = refl
  from_all i (x ∷ xs) d f =
      let first : i ≡ i + 0 = omega arith in
      let here : p i x ≡ true = ap (λ (m : ℕ). p m x) first ∙ f zero (omega arith) in
      let next : (k : ℕ) → suc i + k ≡ i + suc k = λ k. omega arith in
      rw here (from_all (suc i) xs d (λ k h. ap (λ (m : ℕ). p m (get_or xs k d)) (next k) ∙ f (suc k) (omega arith)))

  pub from_at : (i : ℕ) (xs : List A) (k : ℕ) (d : A) → every_from p i xs ≡ true → k < length xs → p (i + k) (get_or xs k d) ≡ true
  from_at i [] k d e h = absurd (omega arith)
  from_at i (x ∷ xs) zero d e h =
      let first : i + 0 ≡ i = omega arith in
      ap (λ (m : ℕ). p m x) first ∙ (and_true (p i x) (every_from p (suc i) xs) e).0
  from_at i (x ∷ xs) (suc k) d e h =
      let next : i + suc k ≡ suc i + k = omega arith in
      ap (λ (m : ℕ). p m (get_or xs k d)) next ∙ from_at (suc i) xs k d (and_true (p i x) (every_from p (suc i) xs) e).1 (omega arith)

  pub from_append : (i : ℕ) (xs ys : List A) → every_from p i xs ≡ true → every_from p (i + length xs) ys ≡ true → every_from p i (xs ++ ys) ≡ true
  from_append i [] ys e f = let first : i ≡ i + 0 = omega arith in ap (λ (m : ℕ). every_from p m ys) first ∙ f
  from_append i (x ∷ xs) ys e f =
      let q = and_true (p i x) (every_from p (suc i) xs) e in
      let next : suc i + length xs ≡ i + suc (length xs) = omega arith in
      rw q.0 (from_append (suc i) xs ys q.1 (ap (λ (m : ℕ). every_from p m ys) next ∙ f))
