-- Digits printed from the last one to the first.
use mathlib.Core.Path.{◌≡◌, refl, sym, ap, ap₂, ◌∙◌}
use mathlib.Core.List.{List, [], ◌∷◌, ◌++◌, append_assoc, append-nil}
use Prim.Native.Nat.{ℕ, suc, ◌+◌, ◌-◌, ◌/◌, ◌%◌, ◌≤◌, ◌<◌}
use native.Mathlib.Omega.{arith}
use native.Mathlib.Numerals.{add-one}
use lib.ListN.{length, get_or, set, take, drop, length-append, take-append-drop}
use lib.Seq.{take-suc, set_at, drop-drop, length-take-le}
use Rattle.words.specs.Words.{put}
use Rattle.words.proofs.Parts.{put_length}
use Rattle.decimal.specs.Decimal.{digits, Printed}
use Rattle.decimal.proofs.Digits.{digits_some, digits_small, digits_more}

-- a byte before those that were put
put_before : (w s : List ℕ) (i d : ℕ) → i + 1 + length s ≤ length w → set (put w (i + 1) (length s) s) i d ≡ put w i (length (d ∷ s)) (d ∷ s)
put_before w s i d h =
    let rest = s ++ drop (length s) (drop (i + 1) w) in
    let front : take (i + 1) w ≡ take i w ++ (get_or w i 0 ∷ []) = ap (λ (k : ℕ). take k w) (add-one i) ∙ take-suc w i 0 (omega arith) in
    let same : i + 1 + length s ≡ i + suc (length s) = omega arith in
    ap (λ (l : List ℕ). set (l ++ rest) i d) front
    ∙ ap (λ (l : List ℕ). set l i d) (append_assoc (take i w) (get_or w i 0 ∷ []) rest)
    ∙ set_at (take i w) (get_or w i 0) rest d i (length-take-le i w (omega arith))
    ∙ ap (λ (l : List ℕ). take i w ++ (d ∷ (s ++ l))) (drop-drop (length s) (i + 1) w ∙ ap (λ (k : ℕ). drop k w) same ∙ sym (drop-drop (suc (length s)) i w))

-- of the digits of n those of m are left to print, the last of them at i; the others are printed
pub record Spelt (w out : List ℕ) (at n m i : ℕ) : Type 0 where
  pub rest : List ℕ
  pub split : digits n ≡ digits m ++ rest
  pub place : i + 1 ≡ at + length (digits m)
  pub laid : out ≡ put w (i + 1) (length rest) rest

pub spelt_none : (w : List ℕ) (at n size : ℕ) → size ≡ length (digits n) → Spelt w w at n n (at + size - 1)
spelt_none w at n size e =
    record {
      rest = [];
      split = sym (append-nil (digits n));
      place = omega (arith, digits_some n);
      laid = sym (take-append-drop (at + size - 1 + 1) w);
    }

pub more_length : (m : ℕ) → 10 ≤ m → length (digits m) ≡ length (digits (m / 10)) + 1
more_length m h = ap length (digits_more m h) ∙ length-append (digits (m / 10)) ((48 + m % 10) ∷ [])

module _ (w out : List ℕ) (at n m i : ℕ) (room : at + length (digits n) ≤ length w) (p : Spelt w out at n m i) where
  whole : at + length (digits m) + length p.rest ≤ length w
  whole = omega (arith, ap length p.split, length-append (digits m) p.rest)

  pub spelt_length : length out ≡ length w
  spelt_length = ap length p.laid ∙ put_length w (i + 1) (length p.rest) p.rest (omega (arith, whole, p.place)) refl

  pub spelt_inside : i < length out
  spelt_inside = omega (arith, spelt_length, whole, p.place)

  one_more : (d : ℕ) → set out i d ≡ put w i (length (d ∷ p.rest)) (d ∷ p.rest)
  one_more d = ap (λ (l : List ℕ). set l i d) p.laid ∙ put_before w p.rest i d (omega (arith, whole, p.place))

  pub spelt_some : 10 ≤ m → 1 ≤ i
  spelt_some h = omega (arith, p.place, more_length m h, digits_some (m / 10))

  pub spelt_more : 10 ≤ m → Spelt w (set out i (48 + m % 10)) at n (m / 10) (i - 1)
  spelt_more h =
      let d = 48 + m % 10 in
      let back : i ≡ i - 1 + 1 = omega (arith, spelt_some h) in
      record {
        rest = d ∷ p.rest;
        split = p.split ∙ ap (λ (l : List ℕ). l ++ p.rest) (digits_more m h) ∙ append_assoc (digits (m / 10)) (d ∷ []) p.rest;
        place = omega (arith, p.place, more_length m h, spelt_some h);
        laid = one_more d ∙ ap (λ (k : ℕ). put w k (length (d ∷ p.rest)) (d ∷ p.rest)) back;
      }

  pub spelt_done : m < 10 → (end : ℕ) → end ≡ at + length (digits n) → Printed w (set out i (48 + m)) at end (digits n)
  spelt_done h end e =
      let all : digits n ≡ (48 + m) ∷ p.rest = p.split ∙ ap (λ (l : List ℕ). l ++ p.rest) (digits_small m h) in
      let first : i ≡ at = omega (arith, p.place, ap length (digits_small m h)) in
      record { end_is = e; exit_is = one_more (48 + m) ∙ ap₂ (λ (k : ℕ) (l : List ℕ). put w k (length l) l) first (sym all) }
