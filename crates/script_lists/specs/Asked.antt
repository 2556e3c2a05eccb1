-- What the functions that fill lists ask: that the lists are as long as what they are to hold.
use Rattle.std.specs.Prelude.{◌≡◌, List, ℕ, ◌≤◌, ℤ, length}
use Rattle.script_lists.specs.Kept.{kept_most}

-- lists in which so many are kept
pub record ToKeep (count : ℕ) (kinds items : List ℕ) (values : List ℤ) : Type 0 where
  pub few : count ≤ kept_most
  pub kinds_sized : length kinds ≡ kept_most
  pub items_sized : length items ≡ kept_most
  pub values_sized : length values ≡ kept_most

-- numbers, and lists for the fields of the items that they stand for
pub record ToItems (list primaries masks : List ℕ) : Type 0 where
  pub few : length list ≤ 256
  pub primaries_sized : length primaries ≡ 128
  pub masks_sized : length masks ≡ 128
