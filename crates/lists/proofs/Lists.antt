-- Laws of lists: the first elements, one replaced, a function of each, by a walk too, a list of known length written out.
use mathlib.Core.Path.{◌≡◌, refl, sym, ap, ap₂, ◌∙◌}
use mathlib.Core.List.{List, [], ◌∷◌, ◌++◌, map, append-nil}
use Prim.Native.Nat.{ℕ, zero, suc, ◌+◌, ◌-◌, ◌≤◌, ◌<◌, min}
use native.Mathlib.Omega.{arith}
use native.Mathlib.Numerals.{add-one}
use native.Mathlib.Nat.{zero-min, suc-min-suc}
use lib.ListN.{length, get_or, set, take, drop, drop_of_length-le, length-map, get_or-map}
use lib.Seq.{drop-cons, take-nil, drop-nil, take-suc, take_all, length-take-le, set_at, get_or_at, append_snoc}
use Rattle.lists.specs.Lists.{spell}

module _ {A : Type 0} where
  pub take_min : (n : ℕ) (l : List A) → take (min n (length l)) l ≡ take n l
  take_min zero l = ap (λ (k : ℕ). take k l) (zero-min (length l))
  take_min (suc n) [] = take-nil (min (suc n) 0)
  take_min (suc n) (x ∷ l) = ap (λ (k : ℕ). take k (x ∷ l)) (suc-min-suc n (length l)) ∙ ap {B = List A} (λ r. x ∷ r) (take_min n l)

  pub drop_min : (n : ℕ) (l : List A) → drop (min n (length l)) l ≡ drop n l
  drop_min zero l = ap (λ (k : ℕ). drop k l) (zero-min (length l))
  drop_min (suc n) [] = drop-nil (min (suc n) 0)
  drop_min (suc n) (x ∷ l) = ap (λ (k : ℕ). drop k (x ∷ l)) (suc-min-suc n (length l)) ∙ drop_min n l

-- ---- the first n of a list without its first element
pub take_rest : {A : Type 0} (n : ℕ) (l : List A) → take n (drop 1 l) ≡ drop 1 (take (suc n) l)
take_rest n [] = take-nil n
take_rest n (x ∷ xs) = refl

-- what holds of each element by its place still does where one is replaced
pub set_each : {A : Type 0} (holds : ℕ → A → Type 0) (xs : List A) (i : ℕ) (y d : A) → ((k : ℕ) → k < length xs → holds k (get_or xs k d)) → (i < length xs → holds i y)
    → (k : ℕ) → k < length (set xs i y) → holds k (get_or (set xs i y) k d)
set_each holds [] i y d f g k h = absurd (omega arith)
set_each holds (x ∷ xs) zero y d f g zero h = g (omega arith)
set_each holds (x ∷ xs) zero y d f g (suc k) h = f (suc k) h
set_each holds (x ∷ xs) (suc i) y d f g zero h = f zero (omega arith)
set_each holds (x ∷ xs) (suc i) y d f g (suc k) h =
    set_each (λ m. holds (suc m)) xs i y d (λ m b. f (suc m) (omega arith)) (λ b. g (omega arith)) k (omega arith)

-- ---- a function of each element
module _ {A B : Type 0} (f : A → B) where
  pub map_take : (n : ℕ) (l : List A) → map f (take n l) ≡ take n (map f l)
  map_take zero l = refl
  map_take (suc n) [] = refl
  map_take (suc n) (x ∷ l) = ap {B = List B} (λ r. f x ∷ r) (map_take n l)

  pub map_set : (l : List A) (i : ℕ) (v : A) → map f (set l i v) ≡ set (map f l) i (f v)
  map_set [] i v = refl
  map_set (x ∷ xs) zero v = refl
  map_set (x ∷ xs) (suc i) v = ap {B = List B} (λ r. f x ∷ r) (map_set xs i v)

-- ---- the first i of s before the rest of d, and one more of s
pub front_next : {A : Type 0} (z : A) (s d : List A) (i : ℕ) → i < length s → i < length d → set (take i s ++ drop i d) i (get_or s i z) ≡ take (i + 1) s ++ drop (i + 1) d
front_next {A} z s d i hs hd =
    ap (λ (l : List A). set (take i s ++ l) i (get_or s i z)) (drop-cons d i z hd)
    ∙ set_at (take i s) (get_or d i z) (drop (suc i) d) (get_or s i z) i (length-take-le i s (omega arith))
    ∙ sym (append_snoc (take i s) (get_or s i z) (drop (suc i) d))
    ∙ ap (λ (l : List A). l ++ drop (suc i) d) (sym (take-suc s i z hs))
    ∙ ap (λ (k : ℕ). take k s ++ drop k d) (sym (add-one i))

-- ---- a list of which the first i have been replaced by a function of each
module _ {A : Type 0} (f : A → A) (l : List A) (i : ℕ) where
  abbrev pub mapped : List A
  mapped = take i (map f l) ++ drop i l

  pub mapped_at : (z : A) → i < length l → get_or mapped i z ≡ get_or l i z
  mapped_at z h =
      let front : length (take i (map f l)) ≡ i = length-take-le i (map f l) (omega (arith, length-map l f)) in
      ap (λ (r : List A). get_or (take i (map f l) ++ r) i z) (drop-cons l i z h) ∙ get_or_at (take i (map f l)) (get_or l i z) (drop (suc i) l) z i front

  pub mapped_next : (z : A) → i < length l → set mapped i (f (get_or l i z)) ≡ take (i + 1) (map f l) ++ drop (i + 1) l
  mapped_next z h = ap (set mapped i) (sym (get_or-map f l i z)) ∙ front_next (f z) (map f l) l i (omega (arith, length-map l f)) h

  pub mapped_all : length l ≤ i → mapped ≡ map f l
  mapped_all h = ap₂ (λ (x y : List A). x ++ y) (take_all i (map f l) (omega (arith, length-map l f))) (drop_of_length-le l {i = i} h) ∙ append-nil (map f l)

-- ---- a list of a known length, written out
module _ {A : Type 0} (d : A) where
  spelled_from : (i n : ℕ) (l : List A) → length l ≤ i + n → take (length l - i) (spell d i n l) ≡ drop i l
  spelled_from i zero l h = take-nil (length l - i) ∙ sym (drop_of_length-le l {i = i} (omega arith))
  spelled_from i (suc n) l h = go (length l - i) refl (λ g. spelled_from (suc i) n l g)
    where
      go : (m : ℕ) → length l - i ≡ m → (length l ≤ suc i + n → take (length l - suc i) (spell d (suc i) n l) ≡ drop (suc i) l) → take (length l - i) (spell d i (suc n) l) ≡ drop i l
      go zero e rest = ap (λ (k : ℕ). take k (spell d i (suc n) l)) e ∙ sym (drop_of_length-le l {i = i} (omega arith))
      go (suc m) e rest =
          let f : length l - suc i ≡ m = omega arith in
          ap (λ (k : ℕ). take k (spell d i (suc n) l)) e
          ∙ ap {B = List A} (λ r. get_or l i d ∷ r) (ap (λ (k : ℕ). take k (spell d (suc i) n l)) (sym f) ∙ rest (omega arith))
          ∙ sym (drop-cons l i d (omega arith))

  -- the elements of a list of at most n, among n written out
  pub spelled : (n : ℕ) (l : List A) → length l ≤ n → take (length l) (spell d 0 n l) ≡ l
  spelled n l h = let z : length l - 0 ≡ length l = omega arith in ap (λ (k : ℕ). take k (spell d 0 n l)) (sym z) ∙ spelled_from 0 n l (omega arith)
