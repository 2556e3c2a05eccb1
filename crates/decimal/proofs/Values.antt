-- Laws of the value of digits, one digit at a time, and of the texts that are numbers.
use mathlib.Core.Path.{◌≡◌, refl, sym, ap, ◌∙◌}
use mathlib.Core.Bool.{Bool, true, false, cond, not, ◌&&◌}
use mathlib.Core.Option.{Option, none, some}
use mathlib.Core.List.{List, [], ◌∷◌}
use Prim.Native.Nat.{ℕ, suc, ◌+◌, ◌-◌, ◌*◌, ◌≤◌, ◌<◌}
use native.Mathlib.Omega.{arith}
use native.Mathlib.Numerals.{add-one}
use lib.ListN.{length, get_or, drop, drop_of_length-le}
use lib.Seq.{drop-cons}
use lib.Dec.{leb, ltb}
use borrow.Author.Tests.{le-leb, lt-leb, leb-true, leb-false, lt-ltb, le-ltb}
use Rattle.lists.specs.Lists.{every}
use Rattle.decimal.specs.Decimal.{is_digit, extra_zero, value_from, greatest, natural}

-- digits only raise it
pub value_above : (v : ℕ) (l : List ℕ) → v ≤ value_from v l
unfolding value_from
value_above v [] = omega arith
value_above v (d ∷ l) = omega (arith, value_above (v * 10 + (d - 48)) l)

-- what is asked of a text: digits only, of a value that is not too large
abbrev pub told : ℕ → List ℕ → Option ℕ
told v l = cond (every is_digit l && leb (value_from v l) greatest) (some (value_from v l)) none

-- one digit more
abbrev pub step : ℕ → ℕ → Option ℕ
step v d = cond (is_digit d && leb (v * 10 + (d - 48)) greatest) (some (v * 10 + (d - 48))) none

pub told_end : (v : ℕ) → v ≤ greatest → some v ≡ told v []
unfolding value_from
told_end v h = rw (le-leb v greatest h)

-- where the value is too large, it stays so with more digits
large : (a : Bool) (v x : ℕ) → v ≤ x → leb v greatest ≡ false → cond (a && leb x greatest) (some x) none ≡ none
large true v x h e = rw (lt-leb x greatest (let g : greatest < v = leb-false v greatest e in omega arith))
large false v x h e = refl

module _ (v d : ℕ) (l : List ℕ) where
  abbrev more : ℕ
  more = v * 10 + (d - 48)

  out : (a b : Bool) → is_digit d ≡ a → leb more greatest ≡ b → none ≡ cond (a && b) (some more) none → none ≡ told v (d ∷ l)
  unfolding value_from
  out true true e f g = cc
  out true false e f g = rw e (sym (large (every is_digit l) more (value_from more l) (value_above more l) f))
  out false b e f g = rw e

  next : (a b : Bool) → is_digit d ≡ a → leb more greatest ≡ b → (w : ℕ) → some w ≡ cond (a && b) (some more) none → (told v (d ∷ l) ≡ told w l) × (w ≤ greatest)
  unfolding value_from
  next true true e f w g = let k : w ≡ more = cc in let h : more ≤ greatest = leb-true more greatest f in (rw (e, k), omega arith)
  next true false e f w g = cc
  next false b e f w g = cc

  pub told_out : none ≡ step v d → none ≡ told v (d ∷ l)
  told_out = out (is_digit d) (leb more greatest) refl refl

  pub told_next : (w : ℕ) → some w ≡ step v d → (told v (d ∷ l) ≡ told w l) × (w ≤ greatest)
  told_next = next (is_digit d) (leb more greatest) refl refl

-- ---- a walk over the digits, i of them passed and worth v
abbrev pub Walked : List ℕ → ℕ → ℕ → Type 0
Walked l v i = (told 0 l ≡ told v (drop i l)) × (v ≤ greatest)

module _ (l : List ℕ) (v i : ℕ) (e : Walked l v i) where
  module _ (h : i < length l) where
    pub walk_out : none ≡ step v (get_or l i 0) → none ≡ told 0 l
    walk_out g = told_out v (get_or l i 0) (drop (suc i) l) g ∙ sym (e.0 ∙ ap (told v) (drop-cons l i 0 h))

    pub walk_next : (w : ℕ) → some w ≡ step v (get_or l i 0) → Walked l w (i + 1)
    walk_next w g =
        let next = told_next v (get_or l i 0) (drop (suc i) l) w g in
        (e.0 ∙ ap (told v) (drop-cons l i 0 h) ∙ next.0 ∙ ap (λ (k : ℕ). told w (drop k l)) (sym (add-one i)), next.1)

  pub walk_end : length l ≤ i → some v ≡ told 0 l
  walk_end h = told_end v e.1 ∙ sym (e.0 ∙ ap (told v) (drop_of_length-le l {i = i} h))

-- ---- which texts are numbers
-- the tests of a number: not empty, no extra zero, digits, not too large
zero_fails : (a z d g : Bool) (x : Option ℕ) → z ≡ true → cond ((a && (not z && d)) && g) x none ≡ none
zero_fails true z d g x e = rw e
zero_fails false z d g x e = refl

others_hold : (a z d g : Bool) (x : Option ℕ) → a ≡ true → z ≡ false → cond (d && g) x none ≡ cond ((a && (not z && d)) && g) x none
others_hold a z d g x e f = rw (e, f)

module _ (l : List ℕ) where
  pub natural_empty : length l ≡ 0 → none ≡ natural l
  unfolding natural
  natural_empty e = rw (le-ltb 0 (length l) (omega arith))

  pub natural_zero : extra_zero l ≡ true → none ≡ natural l
  unfolding natural
  natural_zero e = sym (zero_fails (ltb 0 (length l)) (extra_zero l) (every is_digit l) (leb (value_from 0 l) greatest) (some (value_from 0 l)) e)

  pub natural_told : (length l ≡ 0 → ⊥) → extra_zero l ≡ false → told 0 l ≡ natural l
  unfolding natural
  natural_told n z =
      others_hold (ltb 0 (length l)) (extra_zero l) (every is_digit l) (leb (value_from 0 l) greatest) (some (value_from 0 l)) (lt-ltb 0 (length l) (omega arith)) z

-- what is a number is not empty
pub natural_long : (l : List ℕ) (v : ℕ) → some v ≡ natural l → 1 ≤ length l
unfolding natural
natural_long [] v e = let z : ◌≡◌ {A = ℕ} 0 1 = cc in omega arith
natural_long (d ∷ ds) v e = omega arith
