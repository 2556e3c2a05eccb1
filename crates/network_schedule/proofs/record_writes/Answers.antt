-- `record_writes` reads the operations of a record and takes those that are wanted.
use mathlib.Core.Path.{refl}
use Rattle.protocol.specs.Network.{nth_record}
use Rattle.network_layout.specs.InWords.{network_in}
use Rattle.network_layout.specs.At.{HasRecord}
use Rattle.network_layout.proofs.OnNetwork.{at_record}
use Rattle.protocol.specs.Steps.{wanted_at}
use Rattle.network_schedule.proofs.ScheduleLaws.{laid_record}
use borrow.Author.Rules.{rules}
use Rattle.network_schedule.proofs.record_writes.Goals as goal

pub operation_count-n-requires : goal.operation_count-n-requires
operation_count-n-requires c =
    let A = c.args in
    let at : HasRecord A.state.now A.k = at_record A.state.now c.requires.net A.k A.k refl c.requires.there in
    search rules

pub record_ops-ops-requires : goal.record_ops-ops-requires
record_ops-ops-requires c =
    let A = c.args in
    let at : HasRecord A.state.now A.k = at_record A.state.now c.requires.net A.k A.k refl c.requires.there in
    search rules

pub returns : goal.returns
returns c =
    let A = c.args in
    let n = network_in A.state.now in
    laid_record (wanted_at n.items A.j) (nth_record n A.k).ops c.operation_count-n.result c.record_ops-ops.result c.operation_count-n.ensures c.record_ops-ops.ensures.ops_are c.wanted.result.count c.wanted.result.ops c.wanted.ensures
