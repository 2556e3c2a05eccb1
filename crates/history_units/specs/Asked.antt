-- What a number asks that is written as one of a file's.
use Rattle.std.specs.Prelude.{ℕ, ◌+◌, ◌*◌, ◌≤◌}
use Rattle.limits.specs.Limits.{sites_most, items_most, records_most}
use Rattle.history_file.specs.Bytes.{value_size}
use Rattle.history_file.specs.File.{trailer_size}

-- the most bytes that lead a file's records: a table of places, and base values
abbrev pub lead_most : ℕ
lead_most = sites_most + items_most * value_size

-- the most bytes that a file has: with records and the trailer
abbrev pub file_most : ℕ
file_most = lead_most + 136 * records_most + trailer_size

-- a number of its bytes, or of less
pub record InFile (n : ℕ) : Type 0 where
  pub few : n ≤ file_most
