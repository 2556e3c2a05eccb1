-- `gevrolen_record` lays the record of a number.
use native.Mathlib.Omega.{arith}
use Rattle.gevrolen_c.proofs.AnswerLaws.{numbered_few}
use borrow.Author.Rules.{rules}
use Rattle.gevrolen_c.proofs.gevrolen_record.Goals as goal

pub put_record-requires : goal.put_record-requires
put_record-requires c =
    let A = c.args in
    let g = c.record-given.ensures in
    record { sized = search rules; few = omega (arith, g.count_is, numbered_few A.buffer.now A.number) }

pub returns : goal.returns
returns c = let g = c.record-given.ensures in (g.number_is, c.put_record.ensures _ g)
