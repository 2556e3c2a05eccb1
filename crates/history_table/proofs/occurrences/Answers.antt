-- `occurrences` counts byte by byte: those passed are counted.
use mathlib.Core.Logic.{⊎_elim}
use Prim.Native.Nat.{◌-◌}
use native.Mathlib.Omega.{arith}
use Rattle.history_table.proofs.TableLaws.{counted, count_one, count_none}
use Rattle.history_table.proofs.occurrences.Goals as goal

pub loop-i-init : goal.loop-i-init
loop-i-init c = (omega arith, omega arith, omega arith)

pub returns : goal.returns
returns c =
    let A = c.args in
    counted A.b.now A.k c.loop-i.i c.loop-i.n c.loop-i.invariant.2 c.loop-i-test.false
