-- Laws of a table with a number for each item, changed at the items that operations write.
use mathlib.Core.Path.{◌≡◌, refl, sym, ap, ◌∙◌}
use mathlib.Core.Bool.{Bool, true, false, cond, ◌&&◌, ◌||◌}
use mathlib.Core.List.{List, [], ◌∷◌}
use Prim.Native.Nat.{ℕ, ◌<◌}
use native.Mathlib.Omega.{arith}
use lib.ListN.{length, get_or, length-set}
use lib.Seq.{get_or-set_same, get_or-set_other}
use lib.Dec.{eqb}
use borrow.Author.Tests.{ne_eqb, eqb-true, eqb-false}
use Rattle.limits.specs.Limits.{items_most}
use Rattle.site_operations.specs.Operations.{Op, writes, writes_item, written_item, touches}
use Rattle.site_operations.specs.ChangedItems.{change_item, change_written}

-- as far as there are items, one is written where it is the item written
written_is : (x : ℕ) → x < items_most → (o : Op) → eqb (written_item o) x ≡ writes_item x o
written_is x few o = go (writes o)
  where
    go : (b : Bool) → eqb (cond b o.item items_most) x ≡ (b && eqb o.item x)
    go true = refl
    go false = ne_eqb items_most x (λ z. omega (arith, z))

module _ (f : ℕ → ℕ) where
  pub changed_length : (table : List ℕ) (os : List Op) → length (change_written f table os) ≡ length table
  changed_length table [] = refl
  changed_length table (o ∷ os) = changed_length (change_item f table (written_item o)) os ∙ length-set table (written_item o) (f (get_or table (written_item o) 0))

  -- ---- the number of item x
  module _ (x : ℕ) where
    item_changed : (table : List ℕ) (y : ℕ) → x < length table → get_or (change_item f table y) x 0 ≡ cond (eqb y x) (f (get_or table x 0)) (get_or table x 0)
    item_changed table y l = go (eqb y x) refl
      where
        go : (b : Bool) → eqb y x ≡ b → get_or (change_item f table y) x 0 ≡ cond b (f (get_or table x 0)) (get_or table x 0)
        go true e = ap (λ (k : ℕ). get_or (change_item f table k) x 0) (eqb-true y x e) ∙ get_or-set_same table x (f (get_or table x 0)) 0 l
        go false e = get_or-set_other table y x (f (get_or table y 0)) 0 (λ s. eqb-false y x e (sym s))

    -- where a change made again changes nothing
    module _ (few : x < items_most) (again : (v : ℕ) → f (f v) ≡ f v) where
      pub written_changed : (table : List ℕ) (os : List Op) → x < length table → get_or (change_written f table os) x 0 ≡ cond (touches x os) (f (get_or table x 0)) (get_or table x 0)
      written_changed table [] l = refl
      written_changed table (o ∷ os) l =
          written_changed (change_item f table (written_item o)) os (omega (arith, length-set table (written_item o) (f (get_or table (written_item o) 0))))
          ∙ ap (λ (v : ℕ). cond (touches x os) (f v) v) (item_changed table (written_item o) l ∙ ap (λ (b : Bool). cond b (f (get_or table x 0)) (get_or table x 0)) (written_is x few o))
          ∙ both (writes_item x o) (touches x os)
        where
          both : (b c : Bool) → let v = cond b (f (get_or table x 0)) (get_or table x 0) in cond c (f v) v ≡ cond (b || c) (f (get_or table x 0)) (get_or table x 0)
          both true true = again (get_or table x 0)
          both true false = refl
          both false c = refl
