-- `op_word` lays one operation after those before it, its fields from the three lists.
use mathlib.Core.Path.{ap, ◌∙◌}
use mathlib.Core.List.{[], ◌∷◌, ◌++◌}
use native.Mathlib.Omega.{arith}
use lib.IntN.{pos}
use lib.ListN.{get_or}
use Rattle.site_operations.specs.Operations.{Op}
use Rattle.site_operations.specs.InWords.{ops_in}
use Rattle.network_commit.proofs.OperationWords.{op_given}
use Rattle.network_commit.proofs.operations.op_word.Goals as goal

pub returns : goal.returns
returns c =
    let A = c.args in
    c.put.ensures.laid (omega arith)
    ∙ ap (λ (o : Op). ops_in A.i A.out.now ++ (o ∷ []))
    (op_given (get_or A.kinds.now A.i 0) (get_or A.items.now A.i 0) (get_or A.values.now A.i (pos 0)) c.wide8-kind.result c.bits.result c.wide8-kind.ensures c.bits.ensures (record { sfits = c.v-1.given }))
