-- What the functions of this crate ask of the bytes that they read.
use Rattle.std.specs.Prelude.{List, ℕ, ◌*◌, ◌≤◌, ◌<◌, length}
use Rattle.timestamp_order.specs.Timestamp.{room}
use Rattle.limits.specs.Limits.{ops_most}
use Rattle.history_file.specs.Bytes.{unit_size}
use Rattle.history_file.specs.Reading.{tuple_count, op_count, size_read}

-- n tuples or operations, at most so many
pub record Units (b : List ℕ) (n most : ℕ) : Type 0 where
  pub inside : n * unit_size ≤ length b
  pub few : n ≤ most

-- n tuples, and a place of a timestamp
pub record AtTuple (b : List ℕ) (n i : ℕ) : Type 0 where
  pub inside : n * unit_size ≤ length b
  pub place : i < room

-- a whole record in front, of as many tuples and operations as a value has places for
pub record Whole (b : List ℕ) : Type 0 where
  pub inside : size_read b ≤ length b
  pub few_tuples : tuple_count b ≤ room
  pub few_ops : op_count b ≤ ops_most
