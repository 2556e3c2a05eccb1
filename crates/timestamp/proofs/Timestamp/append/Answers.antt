-- `Timestamp::append` adds a tuple after the last, or gives the plain value where there are eight.
use Rattle.timestamp.specs.Value.{stamp_of}
use Rattle.timestamp.proofs.Plain.{append_law, append_full_law}
use Rattle.timestamp.proofs.Timestamp.append.Goals as goal

pub returns-else-t-lt-SITES_WIDE : goal.returns-else-t-lt-SITES_WIDE
returns-else-t-lt-SITES_WIDE c =
    let A = c.args in
    append_full_law (stamp_of A.self) c.plain-t.result c.plain-t.ensures A.site A.count.0 c.if-t-lt-SITES_WIDE.false

pub returns-then-t-lt-SITES_WIDE : goal.returns-then-t-lt-SITES_WIDE
returns-then-t-lt-SITES_WIDE c =
    let A = c.args in
    append_law (stamp_of A.self) c.plain-t.result c.plain-t.ensures (record { site = A.site; count = A.count }) c.if-t-lt-SITES_WIDE.true
