-- Laws of the digits of a number: the last one behind the others, and how many there are.
use mathlib.Core.Path.{◌≡◌, refl, sym, ap, ◌∙◌}
use mathlib.Core.Bool.{Bool, true, false}
use mathlib.Core.List.{List, [], ◌∷◌, ◌++◌}
use Prim.Native.Nat.{ℕ, zero, suc, ◌+◌, ◌/◌, ◌%◌, ◌^◌, ◌≤◌, ◌<◌}
use native.Mathlib.Omega.{arith}
use native.Mathlib.Nat.{not-suc-le-zero, div-lt_self, div-lt_iff_lt-mul, pow-suc}
use lib.ListN.{length, length-append}
use lib.Dec.{ltb}
use borrow.Author.Tests.{lt-ltb, le-ltb, ltb-true, ltb-false}
use Rattle.decimal.specs.Decimal.{last_digits, digits}

module _ (k n : ℕ) where
  last_small : n < 10 → last_digits (suc k) n ≡ (48 + n) ∷ []
  unfolding last_digits
  last_small h = rw (lt-ltb n 10 h)

  last_more : 10 ≤ n → last_digits (suc k) n ≡ last_digits k (n / 10) ++ ((48 + n % 10) ∷ [])
  unfolding last_digits
  last_more h = rw (le-ltb n 10 h)

-- k past the number gives all digits, whatever it is
last_same : (f g n : ℕ) → n < f → n < g → last_digits f n ≡ last_digits g n
last_same zero g n h i = absurd (not-suc-le-zero h)
last_same (suc f) zero n h i = absurd (not-suc-le-zero i)
last_same (suc f) (suc g) n h i = go (ltb n 10) refl (last_same f g (n / 10))
  where
    go : (b : Bool) → ltb n 10 ≡ b → (n / 10 < f → n / 10 < g → last_digits f (n / 10) ≡ last_digits g (n / 10)) → last_digits (suc f) n ≡ last_digits (suc g) n
    go true e rest = let s : n < 10 = ltb-true n 10 e in last_small f n s ∙ sym (last_small g n s)
    go false e rest =
        let m : 10 ≤ n = ltb-false n 10 e in
        let d : n / 10 < n = div-lt_self (omega arith) (omega arith) in
        last_more f n m ∙ ap (λ (l : List ℕ). l ++ ((48 + n % 10) ∷ [])) (rest (omega arith) (omega arith)) ∙ sym (last_more g n m)

pub digits_small : (n : ℕ) → n < 10 → digits n ≡ (48 + n) ∷ []
unfolding digits
digits_small n h = last_small n n h

pub digits_more : (n : ℕ) → 10 ≤ n → digits n ≡ digits (n / 10) ++ ((48 + n % 10) ∷ [])
unfolding digits
digits_more n h =
    let d : n / 10 < n = div-lt_self (omega arith) (omega arith) in
    last_more n n h ∙ ap (λ (l : List ℕ). l ++ ((48 + n % 10) ∷ [])) (last_same n (suc (n / 10)) (n / 10) d (omega arith))

last_short : (f k n : ℕ) → n < 10 ^ suc k → length (last_digits f n) ≤ suc k
unfolding last_digits
last_short zero k n h = omega arith
last_short (suc f) k n h = go (ltb n 10) refl k h (λ j. last_short f j (n / 10))
  where
    go : (b : Bool) → ltb n 10 ≡ b → (k : ℕ) → n < 10 ^ suc k → ((j : ℕ) → n / 10 < 10 ^ suc j → length (last_digits f (n / 10)) ≤ suc j) → length (last_digits (suc f) n) ≤ suc k
    go true e k h rest = omega (arith, ap length (last_small f n (ltb-true n 10 e)))
    go false e zero h rest = absurd (omega (arith, ltb-false n 10 e))
    go false e (suc j) h rest =
        let r : length (last_digits f (n / 10)) ≤ suc j = rest j ((div-lt_iff_lt-mul {k = 10} {x = n} {y = 10 ^ suc j} (omega arith)).1 (rw pow-suc at h)) in
        omega (arith, ap length (last_more f n (ltb-false n 10 e)), length-append (last_digits f (n / 10)) ((48 + n % 10) ∷ []))

-- a number of 32 bits has ten digits at most
pub digits_short : (n : ℕ) → n < 4294967296 → length (digits n) ≤ 10
unfolding digits
digits_short n h = last_short (suc n) 9 n (omega arith)

pub digits_some : (n : ℕ) → 1 ≤ length (digits n)
digits_some n = go (ltb n 10) refl
  where
    go : (b : Bool) → ltb n 10 ≡ b → 1 ≤ length (digits n)
    go true e = omega (arith, ap length (digits_small n (ltb-true n 10 e)))
    go false e = omega (arith, ap length (digits_more n (ltb-false n 10 e)), length-append (digits (n / 10)) ((48 + n % 10) ∷ []))
