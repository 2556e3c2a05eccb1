-- `write_one` writes one operation's value to the table, where the operation writes.
use Rattle.std.proofs.Common.{◌∙◌, ap}
use Rattle.site_operations.specs.InWords.{op_at, table_in}
use Rattle.site_operations.proofs.Laws.{write_done}
use Rattle.table_access.proofs.write_one.Goals as goal

pub returns-then-kind-eq-WRITE : goal.returns-then-kind-eq-WRITE
returns-then-kind-eq-WRITE c =
    let A = c.args in
    ap table_in c.store.ensures
    ∙ write_done (op_at A.ops.now A.i) A.table.now c.kind.result c.item.result c.value.result c.kind.ensures c.if-kind-eq-WRITE.true c.item.ensures c.value.ensures
