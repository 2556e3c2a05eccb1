-- What refusal 5 of a set-up means: the lines form a cycle, and no cause of a lower number holds.
use Rattle.std.specs.Prelude.{◌≡◌, List, [], ◌∷◌, ℕ, length}
use Rattle.limits.specs.Limits.{sites_most}
use Rattle.lists.specs.Numbers.{first_number, number_if, outside}
use Rattle.placement.specs.Placement.{items_number, is_line}
use Rattle.placement.specs.Places.{Cycle}
use Rattle.protocol.specs.Steps.{items_of, wrong_items, set_up_number}

-- the number of the first cause before 5, or 0 where all items have passed 3 and 4
abbrev pub number_before5 : ℕ → ℕ → List ℕ → List ℕ → ℕ
number_before5 sites items ps ms =
    first_number
    (number_if (outside 1 sites_most sites) 1
    ∷ number_if (wrong_items items (length ps) (length ms)) 2
    ∷ items_number sites (items_of ps ms)
    ∷ [])

-- 5 is given exactly where none of these holds and the lines form a cycle
pub record FiveMeans (sites items : ℕ) (ps ms : List ℕ) : Type 0 where
  pub five : set_up_number sites items ps ms ≡ 5 → (number_before5 sites items ps ms ≡ 0) × Cycle (is_line (items_of ps ms))
  pub cycle : number_before5 sites items ps ms ≡ 0 → Cycle (is_line (items_of ps ms)) → set_up_number sites items ps ms ≡ 5
  -- so every placement without a cycle is accepted, where none of them holds, and no other
  pub free : number_before5 sites items ps ms ≡ 0 → (Cycle (is_line (items_of ps ms)) → ⊥) → set_up_number sites items ps ms ≡ 0
  pub none : set_up_number sites items ps ms ≡ 0 → Cycle (is_line (items_of ps ms)) → ⊥

unfoldable pub FiveMeansCycle : Type 0
FiveMeansCycle = (sites items : ℕ) (ps ms : List ℕ) → FiveMeans sites items ps ms
