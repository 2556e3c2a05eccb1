-- `record_at` lends the record's own words.
use Rattle.network_layout.proofs.AccessLaws.{record_lent}
use Rattle.network_records.proofs.record_at.Goals as goal

pub returns : goal.returns
returns c = record_lent c.args.state.now c.args.k c.requires
