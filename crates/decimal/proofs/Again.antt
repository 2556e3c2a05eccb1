-- What was printed is parsed to the number that it was.
use mathlib.Core.Path.{◌≡◌, refl, sym, ap, ◌∙◌}
use mathlib.Core.Bool.{Bool, true, false, ◌&&◌}
use mathlib.Core.List.{List, [], ◌∷◌, ◌++◌}
use mathlib.Core.Option.{some}
use Prim.Native.Nat.{ℕ, zero, suc, ◌+◌, ◌-◌, ◌*◌, ◌/◌, ◌%◌, ◌≤◌, ◌<◌}
use native.Mathlib.Omega.{arith}
use native.Mathlib.Nat.{mod-lt, div-add-mod', div-lt_self}
use lib.IntN.{ℤ, pos, negsuc}
use lib.ListN.{length, get_or, get_or-append}
use lib.Dec.{eqb, ltb}
use borrow.Author.Tests.{le-leb, ltb-true, ltb-false, ne_eqb}
use mir.Syntax.{w32}
use mir.Val.{SFits}
use Rattle.lists.specs.Lists.{every}
use Rattle.lists.proofs.Every.{every_snoc}
use Rattle.decimal.specs.Decimal.{digits, signed_digits, is_digit, extra_zero, value_from, greatest, natural, negative, not_negative, signed}
use Rattle.decimal.proofs.Digits.{digits_small, digits_more, digits_some}
use Rattle.decimal.proofs.Signs.{minus_ahead, signed_plus, signed_minus}
use Rattle.decimal.proofs.Values.{natural_told}

value_append : (v : ℕ) (xs ys : List ℕ) → value_from v (xs ++ ys) ≡ value_from (value_from v xs) ys
unfolding value_from
value_append v [] ys = refl
value_append v (x ∷ xs) ys = value_append (v * 10 + (x - 48)) xs ys

is_digit_lem : (d : ℕ) → d < 10 → is_digit (48 + d) ≡ true
is_digit_lem d h = rw (le-leb 48 (48 + d) (omega arith), le-leb (48 + d) 57 (omega arith))

-- all that is said of the digits of n
record Digits (n : ℕ) : Type 0 where
  value : value_from 0 (digits n) ≡ n
  only : every is_digit (digits n) ≡ true
  first : 1 ≤ n → 49 ≤ get_or (digits n) 0 0

digits_are : (k n : ℕ) → n < k → Digits n
unfolding value_from
digits_are zero n h = absurd (omega arith)
digits_are (suc k) n h = go (ltb n 10) refl (digits_are k (n / 10))
  where
    go : (b : Bool) → ltb n 10 ≡ b → (n / 10 < k → Digits (n / 10)) → Digits n
    go true e rest =
        let s : n < 10 = ltb-true n 10 e in
        let one : 48 + n - 48 ≡ n = omega arith in
        record {
          value = ap (value_from 0) (digits_small n s) ∙ (omega arith);
          only = ap (every is_digit) (digits_small n s) ∙ ap (λ (b : Bool). b && true) (is_digit_lem n s);
          first = λ z. omega (arith, ap (λ (l : List ℕ). get_or l 0 0) (digits_small n s));
        }
    go false e rest =
        let m : 10 ≤ n = ltb-false n 10 e in
        let d : n / 10 < n = div-lt_self (omega arith) (omega arith) in
        let r = rest (omega arith) in
        let low : n % 10 < 10 = mod-lt n (omega arith) in
        let whole : n / 10 * 10 + n % 10 ≡ n = div-add-mod' n 10 in
        record {
          value =
              ap (value_from 0) (digits_more n m)
              ∙ value_append 0 (digits (n / 10)) ((48 + n % 10) ∷ [])
              ∙ ap (λ (v : ℕ). v * 10 + (48 + n % 10 - 48)) r.value
              ∙ (omega arith);
          only = ap (every is_digit) (digits_more n m) ∙ every_snoc is_digit (digits (n / 10)) (48 + n % 10) r.only (is_digit_lem (n % 10) low);
          first = λ z. omega (arith, r.first (omega arith), ap (λ (l : List ℕ). get_or l 0 0) (digits_more n m), get_or-append (digits (n / 10)) ((48 + n % 10) ∷ []) 0 0 (omega (arith, digits_some (n / 10))));
        }

no_extra : (n : ℕ) → extra_zero (digits n) ≡ false
no_extra zero = ap extra_zero (digits_small 0 (omega arith))
no_extra (suc k) =
    let a = (digits_are (suc (suc k)) (suc k) (omega arith)).first (omega arith) in
    and_false (ltb 1 (length (digits (suc k)))) (eqb (get_or (digits (suc k)) 0 0) 48) (ne_eqb (get_or (digits (suc k)) 0 0) 48 (λ e. omega arith))
  where
    and_false : (a b : Bool) → b ≡ false → (a && b) ≡ false
    and_false true b e = e
    and_false false b e = refl

pub natural_again : (n : ℕ) → n ≤ greatest → natural (digits n) ≡ some n
natural_again n h =
    let a = digits_are (suc n) n (omega arith) in
    sym (natural_told (digits n) (λ z. omega (arith, digits_some n)) (no_extra n)) ∙ (rw (a.only, a.value, le-leb n greatest h))

not_minus : (n : ℕ) → minus_ahead (digits n) ≡ false
not_minus n = first (digits n) (λ e. go n e)
  where
    first : (l : List ℕ) → (get_or l 0 0 ≡ 45 → ⊥) → minus_ahead l ≡ false
    first [] h = refl
    first (d ∷ ds) h = rw (ne_eqb d 45 h)

    go : (n : ℕ) → get_or (digits n) 0 0 ≡ 45 → ⊥
    go zero e = omega (arith, ap (λ (l : List ℕ). get_or l 0 0) (digits_small 0 (omega arith)))
    go (suc k) e = omega (arith, (digits_are (suc (suc k)) (suc k) (omega arith)).first (omega arith))

pub signed_again : (z : ℤ) → SFits w32 z → signed (signed_digits z) ≡ some z
signed_again (pos n) f =
    let h : n < 2147483648 = f.sfits in
    sym (signed_plus (digits n) (not_minus n)) ∙ ap not_negative (natural_again n (omega arith)) ∙ (rw (le-leb n 2147483647 (omega arith)))
signed_again (negsuc n) f =
    let h : n < 2147483648 = f.sfits in
    sym (signed_minus (45 ∷ digits (suc n)) refl) ∙ ap negative (natural_again (suc n) (omega arith)) ∙ (rw (le-leb n 2147483647 (omega arith)))
