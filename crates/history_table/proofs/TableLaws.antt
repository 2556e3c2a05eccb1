-- The walks over a table of places: how often a place stands in it, whether each stands there once, whether they are the numbers.
use mathlib.Core.Path.{◌≡◌, sym, ap, ◌∙◌}
use mathlib.Core.Bool.{Bool, true, false, cond, not, ◌&&◌}
use mathlib.Core.List.{List}
use Prim.Native.Nat.{ℕ, suc, ◌+◌, ◌-◌, ◌≤◌, ◌<◌}
use native.Mathlib.Omega.{arith}
use native.Mathlib.Numerals.{add-one}
use lib.ListN.{length, get_or, drop, drop_of_length-le}
use lib.Seq.{drop-cons}
use lib.Dec.{eqb}
use borrow.Author.Tests.{eq-eqb, ne_eqb}
use Rattle.lists.specs.Lists.{every, up_to, occurrences}
use Rattle.lists.proofs.Every.{every_false, every_next, every_done}
use Rattle.placement.proofs.Places.{numbers_length}
use Rattle.history_file.specs.Bytes.{same}
use Rattle.history_file.specs.File.{is_numbers}
use Rattle.history_file.specs.Reading.{holds_each}
use Rattle.history_file.proofs.Tables.{number_at}

-- ---- how often a place stands in it: n times so far
module _ (b : List ℕ) (k i n : ℕ) (e : n + occurrences k (drop i b) ≡ occurrences k b) where
  pub counted : length b ≤ i → n ≡ occurrences k b
  counted h = let rest : occurrences k (drop i b) ≡ 0 = ap (occurrences k) (drop_of_length-le b {i = i} h) in omega arith

  module _ (h : i < length b) where
    rest_is : occurrences k (drop i b) ≡ cond (eqb (get_or b i 0) k) 1 0 + occurrences k (drop (i + 1) b)
    rest_is = rw (drop-cons b i 0 h, add-one i)

    pub count_one : (x : ℕ) → x ≡ get_or b i 0 → x ≡ k → n + 1 + occurrences k (drop (i + 1) b) ≡ occurrences k b
    count_one x is here =
        let one : occurrences k (drop i b) ≡ 1 + occurrences k (drop (i + 1) b) = rest_is ∙ rw (eq-eqb (get_or b i 0) k (sym is ∙ here)) in
        omega arith

    pub count_none : (x : ℕ) → x ≡ get_or b i 0 → (x ≡ k → ⊥) → n + occurrences k (drop (i + 1) b) ≡ occurrences k b
    count_none x is other =
        let none : occurrences k (drop i b) ≡ 0 + occurrences k (drop (i + 1) b) = rest_is ∙ rw (ne_eqb (get_or b i 0) k (λ y. other (is ∙ y))) in
        omega arith

-- ---- each place once
abbrev pub once : List ℕ → ℕ → Bool
once b k = eqb (occurrences k b) 1

module _ (b : List ℕ) (k : ℕ) (e : every (once b) (up_to 0 (length b)) ≡ every (once b) (drop k (up_to 0 (length b)))) where
  pub each_done : length b ≤ k → true ≡ holds_each b
  unfolding holds_each
  each_done h = sym (every_done (once b) (up_to 0 (length b)) k 0 e (omega (arith, numbers_length 0 (length b))))

  module _ (h : k < length b) (n : ℕ) (is : n ≡ occurrences k b) where
    inside : k < length (up_to 0 (length b))
    inside = omega (arith, numbers_length 0 (length b))

    here : get_or (up_to 0 (length b)) k 0 ≡ k
    here = number_at 0 (length b) k 0 h ∙ (let z : 0 + k ≡ k = omega arith in z)

    pub each_fails : (n ≡ 1 → ⊥) → false ≡ holds_each b
    unfolding holds_each
    each_fails other = sym (every_false (once b) (up_to 0 (length b)) k 0 e inside (ap (once b) here ∙ ne_eqb (occurrences k b) 1 (λ y. other (is ∙ y))))

    pub each_next : n ≡ 1 → every (once b) (up_to 0 (length b)) ≡ every (once b) (drop (k + 1) (up_to 0 (length b)))
    each_next one = every_next (once b) (up_to 0 (length b)) k 0 e inside (ap (once b) here ∙ eq-eqb (occurrences k b) 1 (sym is ∙ one))

-- ---- the numbers
module _ (b : List ℕ) (i : ℕ) (e : is_numbers b ≡ same (drop i b) (up_to i (length b - i))) where
  pub numbers_done : length b ≤ i → true ≡ is_numbers b
  numbers_done h =
      let none : length b - i ≡ 0 = omega arith in
      sym (e ∙ ap (λ (m : ℕ). same (drop i b) (up_to i m)) none ∙ ap (λ (l : List ℕ). same l (up_to i 0)) (drop_of_length-le b {i = i} h))

  module _ (h : i < length b) (x : ℕ) (is : x ≡ get_or b i 0) where
    numbers_step : is_numbers b ≡ (eqb x i && same (drop (i + 1) b) (up_to (i + 1) (length b - (i + 1))))
    numbers_step =
        let some : length b - i ≡ suc (length b - (i + 1)) = omega arith in
        e ∙ ap (λ (m : ℕ). same (drop i b) (up_to i m)) some ∙ rw (is, drop-cons b i 0 h, add-one i)

    pub numbers_fail : (x ≡ i → ⊥) → false ≡ is_numbers b
    numbers_fail other = sym (numbers_step ∙ rw (ne_eqb x i other))

    pub numbers_next : x ≡ i → is_numbers b ≡ same (drop (i + 1) b) (up_to (i + 1) (length b - (i + 1)))
    numbers_next here = numbers_step ∙ rw (eq-eqb x i here)

-- ---- both
module _ (b : List ℕ) (each : Bool) (is : each ≡ holds_each b) where
  pub table_unfit : each ≡ false → false ≡ (holds_each b && not (is_numbers b))
  table_unfit f = sym (rw (sym is ∙ f))

  pub table_by_numbers : each ≡ true → (n : Bool) → n ≡ is_numbers b → not n ≡ (holds_each b && not (is_numbers b))
  table_by_numbers t n e = ap not e ∙ sym (rw (sym is ∙ t))
