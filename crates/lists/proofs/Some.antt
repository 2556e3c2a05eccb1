-- Laws of a test that some element of a list, or some number below another, passes.
use mathlib.Core.Path.{◌≡◌, refl, sym, ap, ◌∙◌}
use mathlib.Core.Bool.{Bool, true, false, cond, ◌||◌, or-true, false≢true}
use mathlib.Core.List.{List, [], ◌∷◌}
use Prim.Native.Nat.{ℕ, zero, suc, ◌+◌, ◌≤◌, ◌<◌}
use native.Mathlib.Omega.{arith}
use native.Mathlib.Numerals.{add-one}
use native.Mathlib.Nat.{not-suc-le-zero}
use lib.ListN.{length, get_or, drop, drop_of_length-le}
use lib.Seq.{drop-cons}
use lib.Dec.{ltb}
use borrow.Author.Tests.{ltb-true, ltb-false}
use Rattle.lists.specs.Lists.{any, some_below, keep}
use Rattle.lists.proofs.Numbers.{or_false}

-- ---- by a walk that leaves at the first that passes
module _ {A : Type 0} (p : A → Bool) (l : List A) (i : ℕ) (d : A) (e : any p l ≡ any p (drop i l)) where
  some_step : i < length l → any p l ≡ (p (get_or l i d) || any p (drop (suc i) l))
  some_step h = e ∙ rw (drop-cons l i d h)

  pub some_true : i < length l → p (get_or l i d) ≡ true → any p l ≡ true
  some_true h q = some_step h ∙ ap (λ (b : Bool). b || any p (drop (suc i) l)) q

  pub some_next : i < length l → p (get_or l i d) ≡ false → any p l ≡ any p (drop (i + 1) l)
  some_next h q = some_step h ∙ ap (λ (b : Bool). b || any p (drop (suc i) l)) q ∙ ap (λ (k : ℕ). any p (drop k l)) (sym (add-one i))

  pub some_done : length l ≤ i → any p l ≡ false
  some_done h = e ∙ ap (any p) (drop_of_length-le l {i = i} h)

-- ---- some element, by its place
module _ {A : Type 0} (p : A → Bool) where
  pub some_at : (xs : List A) (i : ℕ) (d : A) → i < length xs → p (get_or xs i d) ≡ true → any p xs ≡ true
  some_at [] i d h q = absurd (not-suc-le-zero h)
  some_at (x ∷ xs) zero d h q = ap (λ (b : Bool). b || any p xs) q
  some_at (x ∷ xs) (suc i) d h q = ap (λ (b : Bool). p x || b) (some_at xs i d (omega arith) q) ∙ or-true (p x)

  pub none_at : (xs : List A) (i : ℕ) (d : A) → any p xs ≡ false → i < length xs → p (get_or xs i d) ≡ false
  none_at [] i d e h = absurd (not-suc-le-zero h)
  none_at (x ∷ xs) zero d e h = (or_false (p x) (any p xs) e).0
  none_at (x ∷ xs) (suc i) d e h = none_at xs i d (or_false (p x) (any p xs) e).1 (omega arith)

  pub some_index : (xs : List A) (d : A) → any p xs ≡ true → (i : ℕ) × (i < length xs) × (p (get_or xs i d) ≡ true)
  some_index [] d e = absurd (false≢true e)
  some_index (x ∷ xs) d e = go (p x) refl e (some_index xs d)
    where
      go : (b : Bool) → p x ≡ b → (b || any p xs) ≡ true → (any p xs ≡ true → (i : ℕ) × (i < length xs) × (p (get_or xs i d) ≡ true)) → (i : ℕ) × (i < suc (length xs)) × (p (get_or (x ∷ xs) i d) ≡ true)
      go true q e rest = (0, omega arith, q)
      go false q e rest = let s = rest e in (suc s.0, omega arith, s.2)

-- ---- some number below k passes a test, found by a walk upwards
module _ (f : ℕ → Bool) where
  or_right : (a : Bool) → (a || true) ≡ true
  or_right true = refl
  or_right false = refl

  pub some_below_at : (k c : ℕ) → c < k → f c ≡ true → some_below f k ≡ true
  some_below_at zero c h e = absurd (not-suc-le-zero h)
  some_below_at (suc k) c h e = go (ltb c k) refl (some_below_at k c)
    where
      go : (b : Bool) → ltb c k ≡ b → (c < k → f c ≡ true → some_below f k ≡ true) → some_below f (suc k) ≡ true
      go true t rest = rw (rest (ltb-true c k t) e) (or_right (f k))
      go false t rest = let same : k ≡ c = omega (arith, ltb-false c k t) in rw (ap f same ∙ e)

  pub some_below_next : (c : ℕ) → some_below f c ≡ false → f c ≡ false → some_below f (c + 1) ≡ false
  some_below_next c e g = ap (some_below f) (add-one c) ∙ rw g e

  pub some_below_all : (c k : ℕ) → k ≤ c → c ≤ k → some_below f c ≡ false → false ≡ some_below f k
  some_below_all c k h g e = sym e ∙ (let same : c ≡ k = omega arith in ap (some_below f) same)

-- two tests that agree below k find the same
pub some_below_same : (f g : ℕ → Bool) (k : ℕ) → ((c : ℕ) → c < k → f c ≡ g c) → some_below f k ≡ some_below g k
some_below_same f g zero h = refl
some_below_same f g (suc k) h = rw (h k (omega arith), some_below_same f g k (λ c b. h c (omega arith)))

-- one of two tests
pub some_below_or : (f g : ℕ → Bool) (k : ℕ) → (some_below f k || some_below g k) ≡ some_below (λ c. f c || g c) k
some_below_or f g zero = refl
some_below_or f g (suc k) = turn (f k) (g k) (some_below f k) (some_below g k) ∙ ap (λ (b : Bool). (f k || g k) || b) (some_below_or f g k)
  where
    turn : (a b s t : Bool) → ((a || s) || (b || t)) ≡ ((a || b) || (s || t))
    turn true b s t = refl
    turn false true s t = or-true s
    turn false false s t = refl

-- 0 first, then the numbers after it
some_below_front : (f : ℕ → Bool) (k : ℕ) → some_below f (suc k) ≡ (f 0 || some_below (λ c. f (suc c)) k)
some_below_front f zero = refl
some_below_front f (suc k) = ap (λ (b : Bool). f (suc k) || b) (some_below_front f k) ∙ turn (f 0) (f (suc k)) (some_below (λ c. f (suc c)) k)
  where
    turn : (a b s : Bool) → (b || (a || s)) ≡ (a || (b || s))
    turn true b s = or-true b
    turn false b s = refl

-- some mark of a list, which are all among the first k
pub some_marked : (marks : List Bool) (k : ℕ) → ((c : ℕ) → k ≤ c → get_or marks c false ≡ false) → any (λ (b : Bool). b) marks ≡ some_below (λ c. get_or marks c false) k
some_marked [] zero few = refl
some_marked [] (suc k) few = some_marked [] k (λ c l. refl)
some_marked (b ∷ bs) zero few = rw (few 0 (omega arith)) (some_marked bs 0 (λ c l. few (suc c) (omega arith)))
some_marked (b ∷ bs) (suc k) few = ap (λ (t : Bool). b || t) (some_marked bs k (λ c l. few (suc c) (omega arith))) ∙ sym (some_below_front (λ c. get_or (b ∷ bs) c false) k)

pub none_marked : (marks : List Bool) (c : ℕ) → any (λ (b : Bool). b) marks ≡ false → get_or marks c false ≡ false
none_marked [] c e = refl
none_marked (b ∷ bs) zero e = (or_false b (any (λ (t : Bool). t) bs) e).0
none_marked (b ∷ bs) (suc c) e = none_marked bs c (or_false b (any (λ (t : Bool). t) bs) e).1

-- ---- no number below k passes a test
pub none_below : (f : ℕ → Bool) (k c : ℕ) → some_below f k ≡ false → c < k → f c ≡ false
none_below f zero c e h = absurd (omega arith)
none_below f (suc k) c e h = go (ltb c k) refl (none_below f k c (or_false (f k) (some_below f k) e).1)
  where
    go : (b : Bool) → ltb c k ≡ b → (c < k → f c ≡ false) → f c ≡ false
    go true t rest = rest (ltb-true c k t)
    go false t rest = let same : c ≡ k = omega (arith, ltb-false c k t) in ap f same ∙ (or_false (f k) (some_below f k) e).0

pub none_all : (f : ℕ → Bool) (k : ℕ) → ((c : ℕ) → c < k → f c ≡ false) → some_below f k ≡ false
none_all f zero h = refl
none_all f (suc k) h = rw (h k (omega arith)) (none_all f k (λ c l. h c (omega arith)))

-- ---- where some element passes, those that pass are not none; where none does, they are
pub some_kept : {A : Type 0} (p : A → Bool) (xs : List A) → any p xs ≡ true → 0 < length (keep p xs)
some_kept p [] e = absurd (false≢true e)
some_kept p (x ∷ xs) e = go (p x) e (some_kept p xs)
  where
    go : (b : Bool) → (b || any p xs) ≡ true → (any p xs ≡ true → 0 < length (keep p xs)) → 0 < length (cond b (x ∷ keep p xs) (keep p xs))
    go true f rest = omega arith
    go false f rest = rest f

pub none_kept : {A : Type 0} (p : A → Bool) (xs : List A) → any p xs ≡ false → keep p xs ≡ []
none_kept p [] e = refl
none_kept p (x ∷ xs) e = let both = or_false (p x) (any p xs) e in rw both.0 (none_kept p xs both.1)
