-- A message on a line from a parent to a child.
use Rattle.std.specs.Prelude.{ℕ}
use Rattle.limits.specs.Limits.{records_most}
use Rattle.timestamp_order.specs.Timestamp.{Stamp, no_stamp}

-- a message names a recorded commit by its number, or is a dummy with its own timestamp
pub data Message : Type 0 where
  commit : ℕ → Message
  dummy : Stamp → Message

-- the number of the record that a message names; of a dummy a number that no record has
abbrev pub name_of : Message → ℕ
name_of (commit k) = k
name_of (dummy t) = records_most

-- the timestamp of a dummy; a message that names a commit has none of its own
abbrev pub own_stamp : Message → Stamp
own_stamp (commit k) = no_stamp
own_stamp (dummy t) = t
