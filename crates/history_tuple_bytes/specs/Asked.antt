-- What writing tuples asks: that the bytes lent are as many as it writes, and that the numbers are in range.
use Rattle.std.specs.Prelude.{◌≡◌, List, ℕ, ◌*◌, ◌≤◌, length}
use Rattle.timestamp_order.specs.Timestamp.{room}
use Rattle.timestamp_words.specs.InWords.{stamp_in, stamp_size}
use Rattle.history_file.specs.Bytes.{unit_size}

-- the words of a timestamp, and the bytes of its n tuples
pub record ForTuples (b w : List ℕ) (n : ℕ) : Type 0 where
  pub sized : length b ≡ n * unit_size
  pub whole : length w ≡ stamp_size
  pub all : n ≡ length (stamp_in w).tuples
  pub few : n ≤ room
