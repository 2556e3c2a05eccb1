-- `write` does one operation after another: those from i on, done to the table as it is, give the table that all of them give.
use Rattle.std.proofs.Common.{sym, min, arith}
use Rattle.site_operations.specs.InWords.{table_in}
use Rattle.limits.specs.Limits.{ops_most}
use Rattle.table_work.proofs.Progress.{table_next, table_done}
use Rattle.table_work.proofs.write.Goals as goal

pub loop-i-preserved : goal.loop-i-preserved
loop-i-preserved c =
    let q = c.write_one in
    let A = c.args in
    table_next (table_in A.table.now) (min A.n ops_most) A.ops.now (table_in c.loop-i.table) c.loop-i.i (omega arith) (table_in q.new.table) q.ensures c.loop-i.invariant

pub returns : goal.returns
returns c =
    let A = c.args in
    sym (table_done (table_in A.table.now) (min A.n ops_most) A.ops.now (table_in c.loop-i.table) c.loop-i.i (omega arith) c.loop-i.invariant)
