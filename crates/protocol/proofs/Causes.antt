-- A number that no cause of a call has: neither the first of several causes, nor that of an item, nor that of a placement has it.
use mathlib.Core.Path.{◌≡◌}
use mathlib.Core.Bool.{Bool, true, false, cond, ◌||◌}
use mathlib.Core.List.{List, [], ◌∷◌, map}
use Prim.Native.Nat.{ℕ}
use lib.Dec.{eqb, leb}
use Rattle.lists.specs.Numbers.{first_number, number_if}
use Rattle.placement.specs.Masks.{bit}
use Rattle.placement.specs.Placement.{Item, names_missing, item_number, items_number}

-- m is not v
pub record Not (v m : ℕ) : Type 0 where
  pub differs : eqb m v ≡ false

pub either_not : {v m k : ℕ} (b : Bool) → Not v m → Not v k → Not v (cond b m k)
either_not true f g = f
either_not false f g = g

-- the first of a number and the rest
pub first_not : {v m rest : ℕ} → Not v m → Not v rest → Not v (cond (eqb m 0) rest m)
first_not {m = m} f g = either_not (eqb m 0) g f

-- the first of a cause and the rest
pub when_not : {v rest : ℕ} → Not v 0 → (b : Bool) (m : ℕ) → eqb m v ≡ false → Not v rest → Not v (cond (eqb (number_if b m) 0) rest (number_if b m))
when_not z b m e g = first_not (either_not b (record { differs = e }) z) g

pub all_not : {v : ℕ} → Not v 0 → {A : Type 0} (f : A → ℕ) → ((x : A) → Not v (f x)) → (xs : List A) → Not v (first_number (map f xs))
all_not z f g [] = z
all_not z f g (x ∷ xs) = first_not (g x) (all_not z f g xs)

-- an item is refused with 3 or 4
item_not : {v : ℕ} → Not v 0 → Not v 3 → Not v 4 → (sites : ℕ) (x : Item) → Not v (item_number sites x)
unfolding item_number
item_not z three four sites x = either_not (leb sites x.primary) three (either_not (names_missing sites x.mask || bit x.mask x.primary) four z)

pub items_not : {v : ℕ} → Not v 0 → Not v 3 → Not v 4 → (sites : ℕ) (xs : List Item) → Not v (items_number sites xs)
items_not z three four sites = all_not z (item_number sites) (item_not z three four sites)
