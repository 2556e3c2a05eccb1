-- `find_read` asks whether there is such a record.
use mathlib.Core.Path.{refl}
use native.Mathlib.Omega.{arith}
use Rattle.network_layout.specs.InWords.{network_in}
use Rattle.network_layout.proofs.Performs.{records_count}
use Rattle.network_layout.proofs.OnNetwork.{at_record}
use Rattle.network_writers.proofs.WriterLaws.{no_commit, not_found}
use Rattle.network_writers.proofs.find_read.Goals as goal

pub returns-then-record_count-k : goal.returns-then-record_count-k
returns-then-record_count-k c =
    let A = c.args in
    let w = A.state.now in
    not_found (network_in w) A.k A.a
    (no_commit (network_in w) A.k A.a (omega (arith, records_count w, c.record_count.ensures, c.if-record_count-k.true)))

pub find_operation-requires : goal.find_operation-requires
find_operation-requires c =
    let w = c.args.state.now in
    at_record w c.requires c.args.k c.args.k refl (omega (arith, records_count w, c.record_count.ensures, c.if-record_count-k.false))
