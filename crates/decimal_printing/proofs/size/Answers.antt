-- `size` counts a digit for each division by ten. The measure is what is left of the number.
use mathlib.Core.Path.{ap}
use native.Mathlib.Omega.{arith}
use lib.ListN.{length}
use Rattle.decimal.proofs.Digits.{digits_some, digits_small, digits_short}
use Rattle.decimal_printing.proofs.Spelling.{more_length}
use Rattle.decimal_printing.proofs.size.Goals as goal

pub loop-m-init : goal.loop-m-init
loop-m-init c = omega arith

pub overflow_add-k : goal.overflow_add-k
overflow_add-k c =
    omega (arith, c.loop-m.invariant, digits_some c.loop-m.m, digits_short c.args.n c.ranges.n.fits)

pub loop-m-smaller : goal.loop-m-smaller
loop-m-smaller c = omega (arith, c.loop-m-test.true)

pub loop-m-preserved : goal.loop-m-preserved
loop-m-preserved c =
    omega (arith, c.loop-m.invariant, more_length c.loop-m.m c.loop-m-test.true)

pub returns : goal.returns
returns c =
    omega (arith, c.loop-m.invariant, ap length (digits_small c.loop-m.m c.loop-m-test.false))
