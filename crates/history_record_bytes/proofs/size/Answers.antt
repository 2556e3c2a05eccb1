-- `size` is eight bytes for the head, for each tuple and for each operation.
use native.Mathlib.Omega.{arith}
use Rattle.history_file.proofs.Written.{record_size_lem}
use Rattle.protocol.specs.Network.{nth_record}
use Rattle.network_layout.specs.InWords.{network_in}
use Rattle.history_record_bytes.proofs.size.Goals as goal

pub returns : goal.returns
returns c =
    let tuples = c.tuples in
    let ops = c.operation_count in
    let A = c.args in
    (omega (arith, record_size_lem (nth_record (network_in A.state.now) A.k), tuples.ensures.0, ops.ensures.0), omega (arith, tuples.ensures.1, ops.ensures.1))
