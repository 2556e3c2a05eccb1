-- `value` prints a value behind a byte.
use mathlib.Core.Path.{ap}
use native.Mathlib.Omega.{arith}
use mir.Syntax.{w32}
use mir.ValLaws.{to_z-of_z}
use lib.ListN.{length-set}
use Rattle.decimal.specs.Decimal.{signed_digits}
use Rattle.decimal.proofs.Printing.{printed_as}
use Rattle.decimal.proofs.Signs.{signed_short}
use Rattle.script_notation.proofs.Putting.{put_byte, put_then}
use Rattle.script_numbers.proofs.value.Goals as goal

pub returns : goal.returns
returns c =
    let A = c.args in
    put_then (omega arith) (put_byte A.out.now A.at A.byte (omega arith))
    (record { printed = printed_as (ap signed_digits (to_z-of_z w32 A.v c.ranges.v)) (c.put_signed.ensures.printed (omega (arith, length-set A.out.now A.at A.byte))); small = signed_short A.v c.ranges.v })
