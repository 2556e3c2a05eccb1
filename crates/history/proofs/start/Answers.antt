-- `start` adds the sizes of the records before.
use Prim.Native.Nat.{◌-◌}
use native.Mathlib.Omega.{arith}
use Rattle.history_file.proofs.Files.{start_first, start_next, start_done}
use Rattle.history.proofs.start.Goals as goal

pub loop-i-init : goal.loop-i-init
loop-i-init c = (omega arith, omega arith, start_first c.args.k c.args.b.now)

pub overflow_add-at : goal.overflow_add-at
overflow_add-at c =
    let A = c.args in
    omega (arith, (start_next A.k A.b.now c.loop-i.i c.loop-i.at c.loop-i.invariant.2 c.loop-i-test.true c.size-at.result c.size-at.ensures.0).1 c.requires)

pub loop-i-preserved : goal.loop-i-preserved
loop-i-preserved c =
    let A = c.args in
    let n = start_next A.k A.b.now c.loop-i.i c.loop-i.at c.loop-i.invariant.2 c.loop-i-test.true c.size-at.result c.size-at.ensures.0 in
    (omega (arith, c.loop-i-test.true), n.1 c.requires, n.0)

pub returns : goal.returns
returns c =
    let A = c.args in
    start_done A.k A.b.now c.loop-i.i c.loop-i.at c.loop-i.invariant.2 c.loop-i-test.false
