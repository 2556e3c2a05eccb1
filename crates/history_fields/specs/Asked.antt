-- What the functions that lend a part of a file ask of the bytes that the file ends.
use Rattle.std.specs.Prelude.{List, ℕ, ◌+◌, ◌≤◌, length}
use Rattle.history_file.specs.File.{trailer_size}
use Rattle.history_file.specs.Reading.{distance_read, lead_size}

-- a trailer, and a distance that reaches over it and what leads the records, and stays within the bytes
pub record Led (b : List ℕ) : Type 0 where
  pub long : trailer_size ≤ length b
  pub room : lead_size b + trailer_size ≤ distance_read b
  pub high : distance_read b ≤ length b
