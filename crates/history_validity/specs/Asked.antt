-- What the functions of this crate ask of the bytes that they read.
use Rattle.std.specs.Prelude.{◌≡◌, List, ℕ, ◌≤◌, length}
use Rattle.history_file.specs.Reading.{tuple_count, op_count, size_read}

-- a whole record in front, and how many tuples and operations it says
pub record Whole (b : List ℕ) (t o : ℕ) : Type 0 where
  pub inside : size_read b ≤ length b
  pub tuples : t ≡ tuple_count b
  pub ops : o ≡ op_count b
