-- `behind_byte` prints a number behind a byte.
use native.Mathlib.Omega.{arith}
use lib.ListN.{length-set}
use Rattle.decimal.proofs.Digits.{digits_short}
use Rattle.script_notation.proofs.Putting.{put_byte, put_then}
use Rattle.script_numbers.proofs.behind_byte.Goals as goal

pub returns : goal.returns
returns c =
    let A = c.args in
    put_then (omega arith) (put_byte A.out.now A.at A.byte (omega arith))
    (record { printed = c.put.ensures.printed (omega (arith, length-set A.out.now A.at A.byte)); small = digits_short A.n c.ranges.n.fits })
