-- `record` tests that there is one of that number.
use mathlib.Core.Path.{subst}
use native.Mathlib.Omega.{arith}
use Rattle.records.specs.Records.{Record}
use Rattle.network_layout.specs.Reading.{Entered}
use Rattle.network_state.proofs.RecordWords.{record_past, record_beyond}
use Rattle.network_state.proofs.record.Goals as goal

pub returns-then-record_count-k : goal.returns-then-record_count-k
returns-then-record_count-k c =
    let A = c.args in
    let e = c.no_entry.result in
    subst (λ (r : Record). Entered r e) (record_past A.state.now A.k (omega (arith, c.record_count.ensures, c.if-record_count-k.true))) c.no_entry.ensures

pub returns-then-k-ge-RECORDS_WIDE : goal.returns-then-k-ge-RECORDS_WIDE
returns-then-k-ge-RECORDS_WIDE c =
    let e = c.no_entry-then-k-ge-RECORDS_WIDE.result in
    subst (λ (r : Record). Entered r e) (record_beyond c.args.state.now c.args.k c.told-state (omega (arith, c.record_count.ensures, c.if-record_count-k.false)) c.if-k-ge-RECORDS_WIDE.true) c.no_entry-then-k-ge-RECORDS_WIDE.ensures
