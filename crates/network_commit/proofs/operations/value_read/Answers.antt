-- `value_read` adds the value of one operation, where it is a read, behind those before it.
use mathlib.Core.Path.{refl}
use Prim.Native.Nat.{◌+◌}
use native.Mathlib.Omega.{arith}
use lib.Seq.{drop-set-lt}
use Rattle.site_operations.specs.InWords.{op_at}
use Rattle.network_commit.proofs.OperationWords.{read_none, read_one}
use Rattle.network_commit.proofs.operations.value_read.Goals as goal

pub returns-then-kind-ne-READ : goal.returns-then-kind-ne-READ
returns-then-kind-ne-READ c =
    let A = c.args in
    (omega arith, read_none (op_at A.ops.now A.i) c.kind.result c.kind.ensures A.count A.values.now c.if-kind-ne-READ.true, omega arith, refl)
