-- `tuples_fit` tests the 00 bytes, then who made the timestamp.
use borrow.Author.Tests.{not-true, not-false}
use Rattle.timestamp_order.specs.Order.{rank}
use Rattle.history_tuple_validity.proofs.FitLaws.{tuples_unpadded, tuples_made}
use Rattle.history_tuple_validity.proofs.tuples_fit.Goals as goal

pub returns-then-not-padded : goal.returns-then-not-padded
returns-then-not-padded c =
    let p = c.padded in
    let A = c.args in
    tuples_unpadded (rank A.places) A.site A.n A.b.now p.result p.ensures (not-true p.result c.if-not-padded.true-raw)

pub returns : goal.returns
returns c =
    let p = c.padded in
    let A = c.args in
    tuples_made (rank A.places) A.site A.n A.b.now p.result p.ensures (not-false p.result c.if-not-padded.false-raw) c.made_by.result c.made_by.ensures
