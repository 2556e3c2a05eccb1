-- `add_record` writes the record behind the others, and counts it.
use mathlib.Core.Path.{◌≡◌}
use native.Mathlib.Omega.{arith}
use lib.ListN.{length}
use Rattle.timestamp.specs.Value.{stamp_of}
use Rattle.site_operations.specs.InWords.{ops_size}
use Rattle.network_layout.proofs.AccessLaws.{record_added}
use Rattle.network_records.proofs.add_record.Goals as goal

pub returns : goal.returns
returns c =
    let stored = c.store in
    let made = c.record_count-made in
    let long : length c.args.ops.now ≡ ops_size = omega (arith, c.well_formed) in
    record_added c.args.state.now made.result c.args.site c.args.n (stamp_of c.args.t) c.args.ops.now c.requires made.ensures long c.write.new.w c.write.auto.w c.write.ensures stored.new.w made.result made.ensures stored.ensures
