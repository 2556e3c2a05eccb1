-- The number of the first cause that holds: what it is, by a walk too, and what holds where it is 0.
use mathlib.Core.Path.{◌≡◌, refl, sym, ap, ◌∙◌}
use mathlib.Core.Bool.{Bool, true, false, not, cond, ◌||◌, true≢false}
use mathlib.Core.List.{List, ◌∷◌, map}
use Prim.Native.Nat.{ℕ, zero, suc, ◌+◌, ◌≤◌, ◌<◌}
use native.Mathlib.Numerals.{add-one}
use lib.ListN.{length, get_or, drop, drop_of_length-le}
use lib.Seq.{drop-cons}
use native.Mathlib.Omega.{arith}
use lib.Dec.{eqb}
use borrow.Author.Tests.{eq-eqb, ne_eqb}
use Rattle.lists.specs.Numbers.{first_number, number_if}

-- the first cause holds
pub first_holds : (b : Bool) (k : ℕ) (ns : List ℕ) → b ≡ true → first_number (number_if b (suc k) ∷ ns) ≡ suc k
first_holds b k ns e = rw (e, ne_eqb (suc k) 0 (λ z. omega arith))

-- it does not
pub first_fails : (b : Bool) (k : ℕ) (ns : List ℕ) → b ≡ false → first_number (number_if b k ∷ ns) ≡ first_number ns
first_fails b k ns e = rw e

-- a list of causes in a row, one of which may hold
pub first_some : (n : ℕ) (ns : List ℕ) → (n ≡ 0 → ⊥) → first_number (n ∷ ns) ≡ n
first_some n ns h = rw (ne_eqb n 0 h)

pub first_none : (n : ℕ) (ns : List ℕ) → n ≡ 0 → first_number (n ∷ ns) ≡ first_number ns
first_none n ns e = rw (eq-eqb n 0 e)

-- no cause holds
pub none_holds : (b : Bool) (k : ℕ) (ns : List ℕ) → first_number (number_if b (suc k) ∷ ns) ≡ 0 → (b ≡ false) × (first_number ns ≡ 0)
none_holds true k ns e = absurd (let z : suc k ≡ 0 = sym (first_holds true k ns refl) ∙ e in omega arith)
none_holds false k ns e = (refl, e)

pub none_first : (n : ℕ) (ns : List ℕ) → first_number (n ∷ ns) ≡ 0 → (n ≡ 0) × (first_number ns ≡ 0)
none_first zero ns e = (refl, e)
none_first (suc n) ns e = absurd (let z : suc n ≡ 0 = sym (first_some (suc n) ns (λ z. omega arith)) ∙ e in omega arith)

pub or_false : (a b : Bool) → (a || b) ≡ false → (a ≡ false) × (b ≡ false)
or_false true b e = absurd (true≢false e)
or_false false b e = (refl, e)

-- a test that the code asks the other way round
pub flip_false : (r b : Bool) → r ≡ not b → r ≡ false → b ≡ true
flip_false r true e f = refl
flip_false r false e f = absurd (true≢false (sym e ∙ f))

pub flip_true : (r b : Bool) → r ≡ not b → r ≡ true → b ≡ false
flip_true r true e f = absurd (true≢false (sym f ∙ e))
flip_true r false e f = refl

-- ---- by a walk that leaves at the first that is not 0
module _ {A : Type 0} (f : A → ℕ) (l : List A) (i : ℕ) (d : A) (e : first_number (map f l) ≡ first_number (map f (drop i l))) where
  first_step : i < length l → (b : Bool) → eqb (f (get_or l i d)) 0 ≡ b → first_number (map f l) ≡ cond b (first_number (map f (drop (suc i) l))) (f (get_or l i d))
  first_step h b q = e ∙ rw (drop-cons l i d h) (ap (λ (t : Bool). cond t (first_number (map f (drop (suc i) l))) (f (get_or l i d))) q)

  pub first_here : i < length l → (f (get_or l i d) ≡ 0 → ⊥) → first_number (map f l) ≡ f (get_or l i d)
  first_here h q = first_step h false (ne_eqb (f (get_or l i d)) 0 q)

  pub first_next : i < length l → f (get_or l i d) ≡ 0 → first_number (map f l) ≡ first_number (map f (drop (i + 1) l))
  first_next h q = first_step h true (eq-eqb (f (get_or l i d)) 0 q) ∙ ap (λ (k : ℕ). first_number (map f (drop k l))) (sym (add-one i))

  pub first_done : length l ≤ i → first_number (map f l) ≡ 0
  first_done h = e ∙ ap (λ (x : List A). first_number (map f x)) (drop_of_length-le l {i = i} h)
