-- What a commit's work at its site asks and leaves.
use Rattle.std.specs.Prelude.{◌≡◌, true, List, ℕ, ◌≤◌, ◌<◌, length, get_or}
use Rattle.limits.specs.Limits.{sites_most, items_most, ops_most, records_most}
use Rattle.lists.specs.Lists.{every}
use Rattle.timestamp.specs.declared.Timestamp.{Timestamp}
use Rattle.timestamp.specs.Value.{PlainValue}
use Rattle.site_operations.specs.Operations.{Op}
use Rattle.site.specs.Site.{committed}
use Rattle.records.specs.Records.{op_fits}
use Rattle.protocol.specs.Network.{site_at, with_site, with_record}
use Rattle.protocol.specs.Steps.{record_of}
use Rattle.network_layout.specs.Layout.{state_size}
use Rattle.network_layout.specs.InWords.{network_in, in_range}

-- the site has room for n operations, the history for a record, and the record for the operations
pub record WorkReady (w : List ℕ) (i n : ℕ) (os : List Op) : Type 0 where
  pub sized : length w ≡ state_size
  pub ranged : in_range w ≡ true
  pub there : i < get_or w 0 0
  pub few : i < sites_most
  pub room : get_or w 2 0 < records_most
  pub some_ops : 1 ≤ n
  pub few_ops : n ≤ ops_most
  pub fitting : every (op_fits items_most) os ≡ true

-- the operations worked at the site, and the record added; the timestamp and the operations as recorded
pub record WorkDone (entry exit : List ℕ) (i : ℕ) (os : List Op) (stamp : Timestamp) (ops : List Op) : Type 0 where
  pub network_is : network_in exit ≡ with_record (with_site (network_in entry) i (committed os (site_at (network_in entry) i))) (record_of (network_in entry) i os)
  pub ranged : in_range exit ≡ true
  pub stamp_is : PlainValue (record_of (network_in entry) i os).stamp stamp
  pub ops_are : ops ≡ (record_of (network_in entry) i os).ops
