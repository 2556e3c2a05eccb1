-- `number` prints a number, for which there is room.
use native.Mathlib.Omega.{arith}
use Rattle.decimal.proofs.Digits.{digits_short}
use Rattle.script_numbers.proofs.number.Goals as goal

pub returns : goal.returns
returns c = record { printed = c.put.ensures.printed (omega arith); small = digits_short c.args.n c.ranges.n.fits }
