-- What a read gives, said without working the operations: the latest write of its item before it in the commit, or the table before the commit.
use Rattle.std.specs.Prelude.{◌≡◌, true, false, List, ℕ, ◌<◌, ℤ, pos, length, get_or, take}
use Rattle.std.proofs.Math.Option.{some}
use Rattle.site_operations.specs.Operations.{Op, no_op, reads, touches, last_written, worked}

-- operation a is a read of an item of the table
pub record ReadAt (table : List ℤ) (os : List Op) (a : ℕ) : Type 0 where
  pub there : a < length os
  pub reading : reads (get_or os a no_op) ≡ true
  pub item_there : (get_or os a no_op).item < length table

-- a read of item x after the operations `before`: where one writes the item the latest such write's value, else the table's
pub record ReadGives (table : List ℤ) (before : List Op) (x : ℕ) (value : ℤ) : Type 0 where
  pub own : touches x before ≡ true → last_written x before ≡ some value
  pub other : touches x before ≡ false → value ≡ get_or table x (pos 0)

-- so of each read, whatever the table before the commit and its operations
unfoldable pub ReadRule : Type 0
ReadRule =
    (table : List ℤ) (os : List Op) (a : ℕ) → ReadAt table os a
    → ReadGives table (take a os) (get_or os a no_op).item (get_or (worked table os).ops a no_op).value
