-- What the functions that fill lists from a line ask: that the line is short enough for the lists not to end before it.
use Rattle.std.specs.Prelude.{◌≡◌, List, ℕ, ◌≤◌, ℤ, length}
use Rattle.script_notation.specs.Parse.{longest}
use Rattle.script_lists.specs.Kept.{kept_most}

-- a line, read from a place behind the letter and its space, and a list for its numbers
pub record ToNumbersFrom (text : List ℕ) (from : ℕ) (list : List ℕ) : Type 0 where
  pub short : length text ≤ longest
  pub behind : 2 ≤ from
  pub sized : length list ≡ 256

-- a line, and lists for the fields of the operations that are kept of it
pub record ToOperations (text kinds items : List ℕ) (values : List ℤ) : Type 0 where
  pub short : length text ≤ longest
  pub kinds_sized : length kinds ≡ kept_most
  pub items_sized : length items ≡ kept_most
  pub values_sized : length values ≡ kept_most
