-- `each_once` leaves at the first place that does not stand in the table once.
use mathlib.Core.Path.{refl}
use Prim.Native.Nat.{◌-◌}
use native.Mathlib.Omega.{arith}
use Rattle.history_table.proofs.TableLaws.{each_fails, each_next, each_done}
use Rattle.history_table.proofs.each_once.Goals as goal

pub loop-k-init : goal.loop-k-init
loop-k-init c = (omega arith, refl)

pub returns-then-occurrences-ne1 : goal.returns-then-occurrences-ne1
returns-then-occurrences-ne1 c =
    each_fails c.args.b.now c.loop-k.k c.loop-k.invariant.1 c.loop-k-test.true c.occurrences.result c.occurrences.ensures (λ one. omega (arith, c.if-occurrences-ne1.true))

pub loop-k-preserved : goal.loop-k-preserved
loop-k-preserved c =
    (omega arith, each_next c.args.b.now c.loop-k.k c.loop-k.invariant.1 c.loop-k-test.true c.occurrences.result c.occurrences.ensures (omega (arith, c.if-occurrences-ne1.false)))

pub returns : goal.returns
returns c =
    each_done c.args.b.now c.loop-k.k c.loop-k.invariant.1 c.loop-k-test.false
