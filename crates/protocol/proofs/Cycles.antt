-- Refusal 5 means that the lines form a cycle.
use mathlib.Core.Path.{◌≡◌, refl, sym, ◌∙◌}
use mathlib.Core.Bool.{Bool, true, false}
use mathlib.Core.List.{List, [], ◌∷◌}
use Prim.Native.Nat.{ℕ, ◌≤◌}
use native.Mathlib.Omega.{arith}
use lib.ListN.{length}
use lib.Dec.{eqb}
use borrow.Author.Tests.{eqb-true, eqb-false}
use Rattle.limits.specs.Limits.{sites_most}
use Rattle.lists.specs.Numbers.{first_number, number_if, outside}
use Rattle.lists.proofs.Numbers.{none_holds, none_first}
use Rattle.placement.specs.Placement.{items_number, is_line}
use Rattle.placement.specs.Places.{cyclic, placement_number, Cycle}
use Rattle.placement.proofs.Cycles.{cyclic_means_cycle}
use Rattle.protocol.specs.Steps.{items_of, wrong_items, set_up_number}
use Rattle.protocol.specs.Cycles.{number_before5, FiveMeans, FiveMeansCycle}
use Rattle.protocol.proofs.Allowed.{within}
use Rattle.protocol.proofs.Causes.{Not, first_not, when_not, items_not}

-- the first of three, then a fourth
four : (a b c d : ℕ) → first_number (a ∷ b ∷ first_number (c ∷ d ∷ []) ∷ []) ≡ first_number (first_number (a ∷ b ∷ c ∷ []) ∷ d ∷ [])
four a b c d = go (eqb a 0) refl (eqb b 0) refl (eqb c 0) refl (eqb d 0) refl
  where
    go : (p : Bool) → eqb a 0 ≡ p → (q : Bool) → eqb b 0 ≡ q → (r : Bool) → eqb c 0 ≡ r → (s : Bool) → eqb d 0 ≡ s
        → first_number (a ∷ b ∷ first_number (c ∷ d ∷ []) ∷ []) ≡ first_number (first_number (a ∷ b ∷ c ∷ []) ∷ d ∷ [])
    go false e q f r g s h = simp (e)
    go true e false f r g s h = simp (e, f)
    go true e true f false g s h = simp (e, f, g)
    go true e true f true g false h = simp (e, f, g, h)
    go true e true f true g true h = simp (e, f, g, h)

not5 : (m : ℕ) → eqb m 5 ≡ false → Not 5 m
not5 m e = record { differs = e }

module _ (sites items : ℕ) (ps ms : List ℕ) where
  abbrev before : ℕ
  before = number_before5 sites items ps ms

  number_is : set_up_number sites items ps ms ≡ first_number (before ∷ number_if (cyclic (items_of ps ms)) 5 ∷ [])
  unfolding set_up_number placement_number
  number_is =
      four (number_if (outside 1 sites_most sites) 1) (number_if (wrong_items items (length ps) (length ms)) 2) (items_number sites (items_of ps ms)) (number_if (cyclic (items_of ps ms)) 5)

  before_not5 : Not 5 before
  before_not5 =
      let zero = not5 0 refl in
      when_not zero (outside 1 sites_most sites) 1 refl
      (when_not zero (wrong_items items (length ps) (length ms)) 2 refl (first_not (items_not zero (not5 3 refl) (not5 4 refl) sites (items_of ps ms)) zero))

  -- where no lower number is given, there are few sites, and the items pass
  passed : before ≡ 0 → (sites ≤ sites_most) × (items_number sites (items_of ps ms) ≡ 0)
  passed z =
      let rest : List ℕ = items_number sites (items_of ps ms) ∷ [] in
      let a = none_holds (outside 1 sites_most sites) 0 (number_if (wrong_items items (length ps) (length ms)) 2 ∷ rest) z in
      let b = none_holds (wrong_items items (length ps) (length ms)) 1 rest a.1 in
      ((within 1 sites_most sites a.0).1, (none_first (items_number sites (items_of ps ms)) [] b.1).0)

  by_cycle : before ≡ 0 → (c : Bool) → cyclic (items_of ps ms) ≡ c → set_up_number sites items ps ms ≡ number_if c 5
  by_cycle z true e = number_is ∙ simp (z, e)
  by_cycle z false e = number_is ∙ simp (z, e)

  means : FiveMeans sites items ps ms
  means =
      record {
        five = λ e. let z = none_before e in (z, cycle_of z e (cyclic (items_of ps ms)) refl);
        cycle = λ z w. let p = passed z in by_cycle z true ((cyclic_means_cycle sites (items_of ps ms) p.0 p.1).1 w);
        free = λ z out. freed z out (cyclic (items_of ps ms)) refl;
        none = λ e w.
            let z : before ≡ 0 = (none_first before (number_if (cyclic (items_of ps ms)) 5 ∷ []) (sym number_is ∙ e)).0 in
            let p = passed z in
            let five = by_cycle z true ((cyclic_means_cycle sites (items_of ps ms) p.0 p.1).1 w) in
            omega arith;
      }
    where
      none_before : set_up_number sites items ps ms ≡ 5 → before ≡ 0
      none_before e = go (eqb before 0) refl
        where
          go : (b : Bool) → eqb before 0 ≡ b → before ≡ 0
          go true z = eqb-true before 0 z
          go false z = absurd (eqb-false before 5 before_not5.differs (sym (number_is ∙ simp z) ∙ e))

      freed : before ≡ 0 → (Cycle (is_line (items_of ps ms)) → ⊥) → (c : Bool) → cyclic (items_of ps ms) ≡ c → set_up_number sites items ps ms ≡ 0
      freed z out true c = let p = passed z in absurd (out ((cyclic_means_cycle sites (items_of ps ms) p.0 p.1).0 c))
      freed z out false c = by_cycle z false c

      cycle_of : before ≡ 0 → set_up_number sites items ps ms ≡ 5 → (c : Bool) → cyclic (items_of ps ms) ≡ c → Cycle (is_line (items_of ps ms))
      cycle_of z e true c = let p = passed z in (cyclic_means_cycle sites (items_of ps ms) p.0 p.1).0 c
      cycle_of z e false c = let none = by_cycle z false c in absurd (omega arith)

pub five_means_cycle : FiveMeansCycle
unfolding FiveMeansCycle
five_means_cycle = means
