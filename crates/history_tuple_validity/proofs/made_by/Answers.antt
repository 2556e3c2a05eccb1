-- `made_by` tests that there is a tuple, that the places of the sites rise, and the last one.
use borrow.Author.Tests.{not-true, not-false}
use Rattle.timestamp_order.specs.Order.{rank}
use Rattle.history_file.proofs.Validity.{made_none, made_falling, made_last}
use Rattle.history_tuple_validity.proofs.made_by.Goals as goal

pub returns-then-n-eq0 : goal.returns-then-n-eq0
returns-then-n-eq0 c =
    let A = c.args in
    made_none (rank A.places) A.b.now A.n A.site c.if-n-eq0.true

pub returns-then-not-rising : goal.returns-then-not-rising
returns-then-not-rising c =
    let A = c.args in
    let r = c.rising in
    made_falling (rank A.places) A.b.now A.n A.site c.if-n-eq0.false r.result r.ensures (not-true r.result c.if-not-rising.true-raw)

pub returns : goal.returns
returns c =
    let A = c.args in
    let r = c.rising in
    made_last (rank A.places) A.b.now A.n A.site c.if-n-eq0.false r.result r.ensures (not-false r.result c.if-not-rising.false-raw) c.wide.result c.wide.ensures
