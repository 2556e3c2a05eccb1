-- What the functions that print lists ask: room in the buffer from a place on, and eight places in each list.
use Rattle.std.specs.Prelude.{◌≡◌, List, ℕ, ◌+◌, ◌≤◌, ℤ, length}

-- eight operations of 24 bytes at most, by the lists of their fields
pub record RoomForOperations (out : List ℕ) (at : ℕ) (kinds items : List ℕ) (values : List ℤ) : Type 0 where
  pub room : at + 192 ≤ length out
  pub kinds_sized : length kinds ≡ 8
  pub items_sized : length items ≡ 8
  pub values_sized : length values ≡ 8

-- eight values of 12 bytes at most
pub record RoomForValues (out : List ℕ) (at : ℕ) (list : List ℤ) : Type 0 where
  pub room : at + 96 ≤ length out
  pub sized : length list ≡ 8
