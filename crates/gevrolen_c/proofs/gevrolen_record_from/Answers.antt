-- `gevrolen_record_from` lays the record that starts at a byte.
use native.Mathlib.Omega.{arith}
use Rattle.timestamp_order.specs.Order.{rank}
use Rattle.gevrolen_c.proofs.AnswerLaws.{step_few}
use borrow.Author.Rules.{rules}
use Rattle.gevrolen_c.proofs.gevrolen_record_from.Goals as goal

pub put_record-requires : goal.put_record-requires
put_record-requires c =
    let A = c.args in
    let g = c.record_from-given.ensures in
    record { sized = search rules; few = omega (arith, g.count_is, step_few A.part.now A.from (rank A.places.now) A.sites A.items) }

pub returns : goal.returns
returns c = let g = c.record_from-given.ensures in (g.number_is, c.put_record.ensures _ g, g.next_is)
