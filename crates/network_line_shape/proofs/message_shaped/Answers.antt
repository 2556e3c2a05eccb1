-- `message_shaped` asks the history for the commit that the message names, and a dummy for its timestamp.
use native.Mathlib.Omega.{arith}
use Rattle.timestamp_order.specs.Order.{rank}
use Rattle.network_line_shape.specs.LineTests.{history_in}
use Rattle.network_line_shape.proofs.LineLaws.{commit_unmade, message_dummy, message_named}
use Rattle.network_line_shape.proofs.message_shaped.Goals as goal

pub returns-then-name-made : goal.returns-then-name-made
returns-then-name-made c =
    let A = c.args in
    message_named (rank A.places) A.w.now A.p (history_in A.kept.now A.made) c.word-name.result c.word-name.ensures (omega (arith, c.if-name-made.true, c.requires.history.few)) c.made_at.result c.made_at.ensures

pub returns-then-name-lt-RECORDS : goal.returns-then-name-lt-RECORDS
returns-then-name-lt-RECORDS c =
    let A = c.args in
    message_named (rank A.places) A.w.now A.p (history_in A.kept.now A.made) c.word-name.result c.word-name.ensures c.if-name-lt-RECORDS.true _ (commit_unmade A.kept.now A.made A.p c.word-name.result c.if-name-made.false)

pub returns : goal.returns
returns c =
    let A = c.args in
    message_dummy (rank A.places) A.w.now A.p (history_in A.kept.now A.made) c.word-name.result c.word-name.ensures c.if-name-lt-RECORDS.false c.made_by.result c.made_by.ensures
