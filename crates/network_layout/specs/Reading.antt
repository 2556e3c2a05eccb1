-- What the contract of reading one record says.
use Rattle.std.specs.Prelude.{◌≡◌}
use Rattle.timestamp.specs.Value.{PlainValue}
use Rattle.site_operations.specs.InWords.{OpsLaid}
use Rattle.records.specs.Records.{Record}
use Rattle.network_layout.specs.declared.Entry.{Entry}

-- an answer's fields are those of a record: its timestamp plain, its operations in words, 0 past the last
pub record Entered (r : Record) (e : Entry) : Type 0 where
  pub site_is : e.site ≡ r.site
  pub stamp_is : PlainValue r.stamp e.stamp
  pub laid : OpsLaid e.count r.ops e.ops
