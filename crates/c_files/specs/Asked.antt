-- What the functions ask: words for a record, and a part within its buffer.
use Rattle.std.specs.Prelude.{◌≡◌, List, ℕ, ◌+◌, ◌≤◌, length}
use Rattle.limits.specs.Limits.{ops_most}
use Rattle.timestamp_words.specs.InWords.{stamp_size}
use Rattle.site_operations.specs.InWords.{ops_size}
use Rattle.history_file.specs.declared.Found.{Found}
use Rattle.history_file.specs.File.{trailer_size}

pub record ForRecord (w : List ℕ) (given : Found) : Type 0 where
  pub sized : length w ≡ 2 + stamp_size + ops_size
  pub few : given.count ≤ ops_most

-- a part that is not refused ends at the trailer, which ends the buffer
pub record InBuffer (number length size : ℕ) : Type 0 where
  pub within : number ≡ 0 → trailer_size + size ≤ length
