-- `step` tests the bytes from the place on.
use Rattle.timestamp_order.specs.Order.{rank}
use Rattle.history_file.proofs.Validity.{step_none, step_some}
use Rattle.history_validity.proofs.step.Goals as goal

pub returns-then-valid : goal.returns-then-valid
returns-then-valid c =
    let A = c.args in
    step_some (rank A.places) A.sites A.items A.b.now A.at c.valid.result c.valid.ensures c.if-valid.true c.size.result c.size.ensures.0

pub returns : goal.returns
returns c =
    let A = c.args in
    step_none (rank A.places) A.sites A.items A.b.now A.at c.valid.result c.valid.ensures c.if-valid.false
