-- A signed number from its sign and its magnitude.
use mathlib.Core.Path.{◌≡◌, refl, sym, ap, subst, ◌∙◌}
use mathlib.Core.Bool.{Bool, true, false, false≢true}
use mathlib.Core.List.{List, [], ◌∷◌}
use lib.ListN.{length, take, drop}
use lib.Dec.{eqb}
use lib.Pointwise.{pointwise}
use Rattle.std.proofs.Math.Bool.{and-true}
use Prim.Native.Nat.{ℕ, suc, ◌+◌, ◌≤◌, ◌<◌}
use native.Mathlib.Omega.{arith}
use lib.IntN.{ℤ, pos, negsuc, nat_abs, ◌-ℤ◌}
use lib.Signed.{le_z}
use borrow.Author.Tests.{leb-false}
use mir.Syntax.{w32}
use mir.Val.{SFits}
use mir.ValLaws.{to_z-of_z}
use Rattle.signed_words.proofs.Signed.{again, bits_under, bits_cast_2, minus_small}
use Rattle.decimal.proofs.Digits.{digits_short}
use Rattle.decimal.proofs.Values.{natural_empty}
use Rattle.decimal.specs.Decimal.{digits, signed_digits, natural, not_negative, negative, signed}

-- ---- without its sign
module _ (v : ℤ) (f : SFits w32 v) where
  same : again v ≡ v
  same = to_z-of_z w32 v f

  pub plus_magnitude : nat_abs (again v) ≡ nat_abs v
  plus_magnitude = ap nat_abs same

  module _ (e : le_z (pos 0) (again v) ≡ false) where
    lower : 1 ≤ nat_abs v
    lower = go v (subst (λ (z : ℤ). le_z (pos 0) z ≡ false) same e)
      where
        go : (z : ℤ) → le_z (pos 0) z ≡ false → 1 ≤ nat_abs z
        go (pos n) g = absurd (let h : n < 0 = leb-false 0 n g in omega arith)
        go (negsuc n) g = omega arith

    pub minus_magnitude : nat_abs (again (negsuc 0 -ℤ again v)) + 1 ≡ nat_abs v
    minus_magnitude = omega (arith, ap nat_abs (bits_under v f e), lower)

    pub minus_room : nat_abs (again (negsuc 0 -ℤ again v)) + 1 < 4294967296
    minus_room = omega (arith, ap nat_abs (bits_under v f e), (bits_cast_2 v f e).1.fits, (minus_small v f (subst (λ (z : ℤ). le_z (pos 0) z ≡ false) same e)).0)

    pub minus_digits : signed_digits v ≡ 45 ∷ digits (nat_abs v)
    minus_digits = go v (subst (λ (z : ℤ). le_z (pos 0) z ≡ false) same e)
      where
        go : (z : ℤ) → le_z (pos 0) z ≡ false → signed_digits z ≡ 45 ∷ digits (nat_abs z)
        go (pos n) g = absurd (let h : n < 0 = leb-false 0 n g in omega arith)
        go (negsuc n) g = refl

  pub plus_digits : le_z (pos 0) (again v) ≡ true → signed_digits v ≡ digits (nat_abs v)
  plus_digits e = go v (subst (λ (z : ℤ). le_z (pos 0) z ≡ true) same e)
    where
      go : (z : ℤ) → le_z (pos 0) z ≡ true → signed_digits z ≡ digits (nat_abs z)
      go (pos n) g = refl
      go (negsuc n) g = absurd (false≢true g)

-- ---- by its first byte
abbrev pub minus_ahead : List ℕ → Bool
minus_ahead l = pointwise eqb (take 1 l) (45 ∷ [])

pub signed_minus : (l : List ℕ) → minus_ahead l ≡ true → negative (natural (drop 1 l)) ≡ signed l
unfolding signed
signed_minus [] e = cc
signed_minus (d ∷ ds) e = rw (sym (and-true (eqb d 45)) ∙ e)

pub signed_plus : (l : List ℕ) → minus_ahead l ≡ false → not_negative (natural l) ≡ signed l
unfolding signed
signed_plus [] e = ap not_negative (sym (natural_empty [] refl))
signed_plus (d ∷ ds) e = rw (sym (and-true (eqb d 45)) ∙ e)

-- a signed number of 32 bits has eleven bytes at most
pub signed_short : (z : ℤ) → SFits w32 z → length (signed_digits z) ≤ 11
signed_short (pos n) f = let h : n < 2147483648 = f.sfits in omega (arith, digits_short n (omega arith))
signed_short (negsuc n) f = let h : n < 2147483648 = f.sfits in omega (arith, digits_short (suc n) (omega arith))
