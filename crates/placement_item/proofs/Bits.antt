-- The bits of no mask, and those of a weight.
use mathlib.Core.Path.{◌≡◌, refl, sym, ap, ◌∙◌}
use mathlib.Core.Bool.{Bool, true, false}
use Prim.Native.Nat.{ℕ, ◌+◌, ◌%◌, ◌^◌}
use native.Mathlib.Omega.{arith}
use native.Mathlib.Nat.{zero-div, div-eq_of_lt}
use lib.Pow.{pow-lt, pow_pos}
use lib.Dec.{eqb, ltb}
use borrow.Author.Tests.{ltb-true, ltb-false, eq-eqb, ne_eqb}
use Rattle.placement.specs.Masks.{bit}
use Rattle.placement.proofs.Laws.{bit_added, bit_kept}

pub bit_none : (k : ℕ) → bit 0 k ≡ false
bit_none k = ap (λ (z : ℕ). eqb (z % 2) 1) (zero-div (2 ^ k))

pub bit_one : (k j : ℕ) → bit (2 ^ k) j ≡ eqb k j
bit_one k j = go (ltb j k) (ltb k j) refl refl
  where
    e : 0 + 2 ^ k ≡ 2 ^ k
    e = omega arith

    go : (b d : Bool) → ltb j k ≡ b → ltb k j ≡ d → bit (2 ^ k) j ≡ eqb k j
    go true d p q =
        let below = ltb-true j k p in
        ap (λ (x : ℕ). bit x j) (sym e) ∙ bit_kept 0 k j below true ∙ bit_none j ∙ sym (ne_eqb k j (λ z. omega arith))
    go false true p q =
        let above = ltb-true k j q in
        ap (λ (x : ℕ). eqb (x % 2) 1) (div-eq_of_lt (pow-lt above)) ∙ sym (ne_eqb k j (λ z. omega arith))
    go false false p q =
        let same : k ≡ j = omega (arith, ltb-false j k p, ltb-false k j q) in
        ap (bit (2 ^ k)) (sym same) ∙ ap (λ (x : ℕ). bit x k) (sym e) ∙ bit_added 0 k (pow_pos k) true ∙ sym (eq-eqb k j same)
