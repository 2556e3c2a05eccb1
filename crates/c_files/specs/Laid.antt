-- A record of a history as words.
use Rattle.std.specs.Prelude.{◌≡◌, List, ℕ, ◌+◌, length, get_or, drop}
use Rattle.lists.specs.Lists.{padded}
use Rattle.limits.specs.Limits.{ops_most}
use Rattle.words.specs.Words.{part}
use Rattle.timestamp_words.specs.InWords.{stamp_size, stamp_words}
use Rattle.site_operations.specs.Operations.{no_op}
use Rattle.site_operations.specs.InWords.{ops_in, ops_size}
use Rattle.records.specs.Records.{Record}

-- a record's words: its site, how many operations it has, its timestamp, and eight places of operations
pub record RecordLaid (r : Record) (answer : List ℕ) : Type 0 where
  pub sized : length answer ≡ 2 + stamp_size + ops_size
  pub site_is : get_or answer 0 0 ≡ r.site
  pub count_is : get_or answer 1 0 ≡ length r.ops
  pub stamp_is : part answer 2 stamp_size ≡ stamp_words r.stamp
  pub ops_are : ops_in ops_most (drop (2 + stamp_size) answer) ≡ padded ops_most no_op r.ops
