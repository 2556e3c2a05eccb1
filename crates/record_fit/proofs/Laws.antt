-- Laws of the test of the codes.
use mathlib.Core.Path.{◌≡◌, refl, sym, ap, ap₂, ◌∙◌}
use mathlib.Core.Bool.{Bool, true, false, ◌&&◌}
use mathlib.Core.List.{List, [], ◌∷◌}
use Prim.Native.Nat.{ℕ, ◌+◌, ◌*◌, ◌-◌, ◌≤◌, ◌<◌}
use native.Mathlib.Omega.{arith}
use lib.ListN.{take}
use lib.Bits.{bit_and}
use lib.Dec.{ltb, eqb}
use borrow.Author.Tests.{lt-ltb, le-ltb, ltb-true, ltb-false, eq-eqb, ne_eqb}
use Rattle.lists.specs.Lists.{every}
use Rattle.lists.proofs.Every.{and_true}
use Rattle.lanes.specs.Lanes.{bytes, each}
use Rattle.lanes.proofs.Laws.{bytes_take, below_128, below_least, each_times}
use Rattle.limits.specs.Limits.{ops_most}
use Rattle.record_codes.specs.Codes.{codes_most, code_number, codes_in}

-- of codes below 128 those that stay below it, raised by what is left of twice the items, are those of the items
by_spare : (items c : ℕ) → c < codes_most → ltb c (codes_most - (codes_most - 2 * items)) ≡ ltb c (2 * items)
by_spare items c l = go (ltb c (2 * items)) refl
  where
    go : (t : Bool) → ltb c (2 * items) ≡ t → ltb c (codes_most - (codes_most - 2 * items)) ≡ t
    go true f = lt-ltb c (codes_most - (codes_most - 2 * items)) (omega (arith, ltb-true c (2 * items) f))
    go false f = le-ltb c (codes_most - (codes_most - 2 * items)) (omega (arith, ltb-false c (2 * items) f))

all_by_spare : (items : ℕ) (cs : List ℕ) → every (λ c. ltb c codes_most) cs ≡ true → every (λ c. ltb c (codes_most - (codes_most - 2 * items))) cs ≡ every (λ c. ltb c (2 * items)) cs
all_by_spare items [] e = refl
all_by_spare items (c ∷ cs) e =
    let q = and_true (ltb c codes_most) (every (λ c. ltb c codes_most) cs) e in
    ap₂ (λ (s t : Bool). s && t) (by_spare items c (ltb-true c codes_most q.0)) (all_by_spare items cs q.1)

module _ (w : List ℕ) (items n : ℕ) (few : n ≤ ops_most) where
  abbrev in_range : Bool
  in_range = every (λ c. ltb c codes_most) (take n (codes_in w))

  abbrev fitting : Bool
  fitting = in_range && every (λ c. ltb c (2 * items)) (take n (codes_in w))

  codes_first : take n (codes_in w) ≡ bytes n (code_number w)
  codes_first = bytes_take n ops_most (code_number w) few

  module _ (x tops : ℕ) (xs : x ≡ code_number w) (ts : tops ≡ each 128 n) where
    tested : eqb (bit_and x tops) 0 ≡ in_range
    tested = ap₂ (λ (a b : ℕ). eqb (bit_and a b) 0) xs ts ∙ below_128 n (code_number w) ∙ ap (every (λ c. ltb c codes_most)) (sym codes_first)

    pub fit_none : (bit_and x tops ≡ 0 → ⊥) → eqb (bit_and x tops) 0 ≡ fitting
    fit_none z =
        let none = ne_eqb (bit_and x tops) 0 z in
        none ∙ sym (ap (λ (b : Bool). b && every (λ c. ltb c (2 * items)) (take n (codes_in w))) (sym tested ∙ none))

    module _ (z : bit_and x tops ≡ 0) (k : ℕ) (ks : k ≡ codes_most - 2 * items) where
      all_below : in_range ≡ true
      all_below = sym tested ∙ eq-eqb (bit_and x tops) 0 z

      pub fit_all : eqb (bit_and (bit_and x (each 127 8) + k * 72340172838076673) tops) 0 ≡ fitting
      fit_all =
          let low : every (λ c. ltb c codes_most) (bytes n x) ≡ true = ap (λ (y : ℕ). every (λ c. ltb c codes_most) (bytes n y)) xs ∙ sym (ap (every (λ c. ltb c codes_most)) codes_first) ∙ all_below in
          ap₂ (λ (a b : ℕ). eqb (bit_and (bit_and x (each 127 8) + a) b) 0) (each_times k) ts
          ∙ below_least x k (omega arith) n few low
          ∙ ap₂ (λ (a b : ℕ). every (λ c. ltb c (codes_most - a)) (bytes n b)) ks xs
          ∙ ap (every (λ c. ltb c (codes_most - (codes_most - 2 * items)))) (sym codes_first)
          ∙ all_by_spare items (take n (codes_in w)) all_below
          ∙ sym (ap (λ (b : Bool). b && every (λ c. ltb c (2 * items)) (take n (codes_in w))) all_below)
