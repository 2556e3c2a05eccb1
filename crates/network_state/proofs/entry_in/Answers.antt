-- `entry_in` reads the fields of the record one after another.
use Rattle.network_state.proofs.entry_in.Goals as goal

pub returns : goal.returns
returns c =
    let count = c.operation_count in
    record {
      site_is = c.record_site.ensures;
      stamp_is = c.record_stamp.ensures;
      laid = rw count.ensures.0 c.record_ops.ensures;
    }
