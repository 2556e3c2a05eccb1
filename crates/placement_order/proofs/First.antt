-- The first number that passes a test: as a search of a range finds it, and for two tests that agree.
use mathlib.Core.Path.{◌≡◌, refl, sym, subst, ◌∙◌}
use mathlib.Core.Bool.{Bool, true, false, cond}
use Prim.Native.Nat.{ℕ, zero, suc, ◌+◌, ◌≤◌, ◌<◌}
use native.Mathlib.Omega.{arith}
use Rattle.std.proofs.Common.{Option, None, Some}
use Rattle.std.specs.Option.{MatchOption}
use Rattle.std.specs.List.{find, range_with_len}
use Rattle.placement.specs.Places.{first_from}

-- ---- the first of n numbers from a on, found or not
abbrev pub IsFirst : (ℕ → Bool) → ℕ → ℕ → Option ℕ → Type 0
IsFirst p a n o = MatchOption o (a + n ≤ first_from p a n) (λ c. (c ≡ first_from p a n) × (c < a + n))

pub first_found : (p : ℕ → Bool) (a n : ℕ) → IsFirst p a n (find p (range_with_len a n))
first_found p a zero = omega arith
first_found p a (suc n) = go (p a) (first_found p (suc a) n)
  where
    next : suc a ≡ a + 1
    next = omega arith

    size : a + 1 + n ≡ a + suc n
    size = omega arith

    go : (b : Bool) → IsFirst p (suc a) n (find p (range_with_len (suc a) n)) → MatchOption (cond b (Some a) (find p (range_with_len (a + 1) n))) (a + suc n ≤ cond b a (first_from p (suc a) n)) (λ c. (c ≡ cond b a (first_from p (suc a) n)) × (c < a + suc n))
    go true rest = (refl, omega arith)
    go false rest =
        subst (λ (m : ℕ). MatchOption (find p (range_with_len (a + 1) n)) (m ≤ first_from p (suc a) n) (λ c. (c ≡ first_from p (suc a) n) × (c < m))) size
        (subst (λ (k : ℕ). MatchOption (find p (range_with_len k n)) (k + n ≤ first_from p (suc a) n) (λ c. (c ≡ first_from p (suc a) n) × (c < k + n))) next rest)

module _ (p : ℕ → Bool) (n : ℕ) (o : Option ℕ) (e : o ≡ find p (range_with_len 0 n)) where
  pub first_some : (c : ℕ) → o ≡ Some c → (c ≡ first_from p 0 n) × (c < n)
  first_some c f = let h = subst (IsFirst p 0 n) (sym e ∙ f) (first_found p 0 n) in (h.0, omega (arith, h.1))

  pub first_none : o ≡ None → n ≤ first_from p 0 n
  first_none f = let h = subst (IsFirst p 0 n) (sym e ∙ f) (first_found p 0 n) in omega (arith, h)

-- ---- two tests that agree
pub first_same : (p q : ℕ → Bool) (a n : ℕ) → ((c : ℕ) → c < a + n → p c ≡ q c) → first_from p a n ≡ first_from q a n
first_same p q a zero h = refl
first_same p q a (suc n) h = rw (h a (omega arith), first_same p q (suc a) n (λ c b. h c (omega arith)))
