-- `tuple_at` reads eight bytes, or nothing.
use Rattle.history_file.proofs.Held.{tuple_there, tuple_past}
use Rattle.history_record.proofs.tuple_at.Goals as goal

pub returns-then-i-n : goal.returns-then-i-n
returns-then-i-n c =
    let A = c.args in
    tuple_there A.b.now A.n A.i c.if-i-n.true c.wide.result c.number.result c.wide.ensures c.number.ensures

pub returns : goal.returns
returns c =
    let A = c.args in
    tuple_past A.b.now A.n A.i c.if-i-n.false
