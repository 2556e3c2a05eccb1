-- `padded` leaves at the first eight of bytes with one that is not 0.
use mathlib.Core.Path.{refl}
use Prim.Native.Nat.{◌-◌}
use native.Mathlib.Omega.{arith}
use borrow.Author.Tests.{not-true, not-false}
use Rattle.history_file.proofs.Units.{pad_fails, pad_passes, pads_done}
use Rattle.history_tuple_validity.proofs.padded.Goals as goal

pub loop-i-init : goal.loop-i-init
loop-i-init c = (omega arith, refl)

pub returns-then-not-zeros : goal.returns-then-not-zeros
returns-then-not-zeros c =
    let A = c.args in
    pad_fails A.b.now A.n A.from c.loop-i.i c.requires.within c.loop-i.invariant.1 c.loop-i-test.true c.zeros.result c.zeros.ensures (not-true c.zeros.result c.if-not-zeros.true-raw)

pub loop-i-preserved : goal.loop-i-preserved
loop-i-preserved c =
    let A = c.args in
    (omega arith, pad_passes A.b.now A.n A.from c.loop-i.i c.requires.within c.loop-i.invariant.1 c.loop-i-test.true c.zeros.result c.zeros.ensures (not-false c.zeros.result c.if-not-zeros.false-raw))

pub returns : goal.returns
returns c =
    let A = c.args in
    pads_done A.b.now A.n A.from c.loop-i.i c.requires.within c.loop-i.invariant.1 c.loop-i-test.false
