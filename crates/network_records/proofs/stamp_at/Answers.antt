-- `stamp_at` lends the words of the timestamp in those of the record.
use mathlib.Core.Path.{ap}
use Rattle.records.specs.Records.{Record}
use Rattle.records.specs.InWords.{record_in}
use Rattle.words.proofs.Parts.{part_length}
use native.Mathlib.Omega.{arith}
use Rattle.network_records.proofs.stamp_at.Goals as goal

pub returns : goal.returns
unfolding record_in
returns c =
    let lent = c.record_at-w.ensures in
    record { sized = part_length c.record_at-w.result.now 2 18 (omega (arith, lent.sized)); meant = ap (λ (r : Record). r.stamp) lent.meant }
