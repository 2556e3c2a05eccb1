-- What writing records asks: that the bytes lent are as many as it writes, and that the numbers are in range.
use Rattle.std.specs.Prelude.{◌≡◌, List, ◌++◌, ℕ, ◌+◌, ◌*◌, ◌≤◌, length}
use Rattle.limits.specs.Limits.{ops_most, records_most}
use Rattle.timestamp_order.specs.Timestamp.{room}
use Rattle.site_operations.specs.InWords.{ops_size}
use Rattle.records.specs.Records.{Record}
use Rattle.protocol.specs.Network.{nth_record}
use Rattle.network_layout.specs.Layout.{state_size, record_count}
use Rattle.network_layout.specs.InWords.{network_in}
use Rattle.network_layout.specs.At.{HasRecord}
use Rattle.history_file.specs.Bytes.{unit_size, unit, joined}
use Rattle.history_file.specs.File.{pair_bytes, record_bytes}

-- the bytes of a record before its operations
abbrev pub front_bytes : Record → List ℕ
front_bytes r = unit r.site (length r.stamp.tuples) (length r.ops) r.stamp.epoch ++ joined pair_bytes r.stamp.tuples

-- the words of operations, and the bytes of the first n
pub record ForOps (b ops : List ℕ) (n : ℕ) : Type 0 where
  pub sized : length b ≡ n * unit_size
  pub whole : length ops ≡ ops_size
  pub few : n ≤ ops_most

-- the bytes of record k before its operations
pub record ForFront (b w : List ℕ) (k n count : ℕ) : Type 0 where
  pub there : HasRecord w k
  pub sized : length b ≡ unit_size + unit_size * n
  pub tuples : n ≡ length (nth_record (network_in w) k).stamp.tuples
  pub few_tuples : n ≤ room
  pub ops : count ≡ length (nth_record (network_in w) k).ops
  pub few_ops : count ≤ ops_most

-- the bytes of its n operations
pub record ForOpsOf (b w : List ℕ) (k n : ℕ) : Type 0 where
  pub there : HasRecord w k
  pub sized : length b ≡ n * unit_size
  pub all : n ≡ length (nth_record (network_in w) k).ops
  pub few : n ≤ ops_most

-- the bytes of record k
pub record ForRecord (b w : List ℕ) (k : ℕ) : Type 0 where
  pub there : HasRecord w k
  pub sized : length b ≡ length (record_bytes (nth_record (network_in w) k))

-- the number of the records of a state
pub record Counted (w : List ℕ) (n : ℕ) : Type 0 where
  pub whole : length w ≡ state_size
  pub all : n ≡ record_count w
  pub few : n ≤ records_most

-- that number, and the bytes of the records
pub record ForRecords (b w : List ℕ) (n : ℕ) : Type 0 where
  pub counted : Counted w n
  pub sized : length b ≡ length (joined record_bytes (network_in w).history)
