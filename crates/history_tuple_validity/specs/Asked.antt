-- What the functions of this crate ask of the bytes that they read.
use Rattle.std.specs.Prelude.{List, ℕ, ◌*◌, ◌≤◌, length}
use Rattle.history_file.specs.Bytes.{unit_size}

-- n eights of bytes, and the number of one of the first four in each, or 4
pub record Padding (b : List ℕ) (n from : ℕ) : Type 0 where
  pub inside : n * unit_size ≤ length b
  pub within : from ≤ 4
