-- Tests of every element of a list, and a walk over chunks that leaves at the first that fails.
use mathlib.Core.Path.{◌≡◌, refl, sym, ap, ap₂, ◌∙◌}
use mathlib.Core.Bool.{Bool, true, false, ◌&&◌, and-false}
use mathlib.Core.List.{List, [], ◌∷◌, map}
use Prim.Native.Nat.{ℕ, suc, ◌+◌, ◌*◌, ◌≤◌, ◌<◌}
use native.Mathlib.Omega.{arith}
use native.Mathlib.Numerals.{add-one}
use lib.ListN.{length, get_or, drop, drop_of_length-le}
use Rattle.std.specs.List.{list_all, range_with_len}
use lib.Seq.{drop-cons}
use Rattle.words.specs.Words.{part, chunks}
use Rattle.lists.specs.Lists.{every, every_from}
use Rattle.words.proofs.Chunks.{chunks_length, chunks_at}

-- ---- a test of each element
pub every_from_lem : {A : Type 0} (p : A → Bool) (i : ℕ) (l : List A) → every_from (λ _ x. p x) i l ≡ every p l
every_from_lem p i [] = refl
every_from_lem p i (x ∷ xs) = ap (λ (b : Bool). p x && b) (every_from_lem p (suc i) xs)

pub and_swap : (a b c : Bool) → (a && (b && c)) ≡ (b && (a && c))
and_swap true b c = refl
and_swap false b c = sym (and-false b)

pub and_pairs : (a b c d : Bool) → ((a && b) && (c && d)) ≡ ((a && c) && (b && d))
and_pairs true b c d = and_swap b c d
and_pairs false b c d = refl

-- two tests, one of them of what the element means
module _ {A B : Type 0} (p : A → Bool) (f : A → B) where
  pub from_both : (q : ℕ → B → Bool) (t : ℕ → A → Bool) → ((i : ℕ) (x : A) → t i x ≡ (p x && q i (f x))) → (i : ℕ) (l : List A) → every_from t i l ≡ (every p l && every_from q i (map f l))
  from_both q t e i [] = refl
  from_both q t e i (x ∷ xs) = ap₂ (λ (a b : Bool). a && b) (e i x) (from_both q t e (suc i) xs) ∙ and_pairs (p x) (q i (f x)) (every p xs) (every_from q (suc i) (map f xs))

  pub every_both : (q : B → Bool) (l : List A) → every (λ x. p x && q (f x)) l ≡ (every p l && every q (map f l))
  every_both q l = sym (every_from_lem (λ (x : A). p x && q (f x)) 0 l) ∙ from_both (λ _. q) (λ _ x. p x && q (f x)) (λ _ _. refl) 0 l ∙ ap (λ (b : Bool). every p l && b) (every_from_lem q 0 (map f l))

-- a walk over chunks that leaves at the first that fails: up to i all pass
abbrev pub Passed : (ℕ → List ℕ → Bool) → ℕ → ℕ → List ℕ → ℕ → Type 0
Passed q m n w i = every_from q 0 (chunks m n w) ≡ every_from q i (drop i (chunks m n w))

module _ (q : ℕ → List ℕ → Bool) (m n : ℕ) (w : List ℕ) (i : ℕ) (e : Passed q m n w i) where
  pub walk_done : n ≤ i → true ≡ every_from q 0 (chunks m n w)
  walk_done h = sym (e ∙ ap (every_from q i) (drop_of_length-le (chunks m n w) {i = i} (omega (arith, chunks_length m n w))))

  module _ (h : i < n) (r : Bool) (is : r ≡ q i (part w (i * m) m)) where
    walk_step : every_from q 0 (chunks m n w) ≡ (r && every_from q (i + 1) (drop (i + 1) (chunks m n w)))
    walk_step =
        e
        ∙ ap (every_from q i) (drop-cons (chunks m n w) i [] (omega (arith, chunks_length m n w)))
        ∙ ap₂ (λ (b : Bool) (j : ℕ). b && every_from q j (drop j (chunks m n w))) (ap (q i) (chunks_at m n w i h) ∙ sym is) (sym (add-one i))

    pub walk_false : r ≡ false → false ≡ every_from q 0 (chunks m n w)
    walk_false f = sym (walk_step ∙ ap (λ (b : Bool). b && every_from q (i + 1) (drop (i + 1) (chunks m n w))) f)

    pub walk_next : r ≡ true → Passed q m n w (i + 1)
    walk_next t = walk_step ∙ ap (λ (b : Bool). b && every_from q (i + 1) (drop (i + 1) (chunks m n w))) t

-- a test asked at the places of a list, of each of them
pub all_by_place : {A : Type 0} (d : A) (p : A → Bool) (q : ℕ → Bool) (xs : List A) (a : ℕ)
    → ((i : ℕ) → i < length xs → q (a + i) ≡ p (get_or xs i d)) → list_all q (range_with_len a (length xs)) ≡ every p xs
all_by_place d p q [] a h = refl
all_by_place d p q (x ∷ xs) a h =
    let first : a ≡ a + 0 = omega arith in
    ap₂ (λ (s t : Bool). s && t) (ap q first ∙ h 0 (omega arith))
    (all_by_place d p q xs (a + 1) (λ i k. let next : a + 1 + i ≡ a + suc i = omega arith in ap q next ∙ h (suc i) (omega arith)))
