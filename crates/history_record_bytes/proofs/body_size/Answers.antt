-- `body_size` adds the sizes of the records.
use mathlib.Core.Path.{refl}
use Prim.Native.Nat.{◌<◌, ◌-◌}
use native.Mathlib.Omega.{arith}
use lib.ListN.{length}
use Rattle.network_layout.specs.InWords.{network_in}
use Rattle.network_layout.proofs.Performs.{records_count}
use Rattle.history_file.proofs.Exports.{body_more, body_done}
use Rattle.history_record_bytes.proofs.body_size.Goals as goal

pub loop-i-init : goal.loop-i-init
loop-i-init c = (omega arith, refl, omega arith)

pub overflow_add-sum : goal.overflow_add-sum
overflow_add-sum c =
    omega (arith, c.loop-i.invariant.2, c.size-sum.ensures.1, c.requires.few, c.loop-i-test.true)

pub loop-i-preserved : goal.loop-i-preserved
loop-i-preserved c =
    let w = c.args.state.now in
    let less : c.loop-i.i < length (network_in w).history = omega (arith, c.requires.all, records_count w, c.loop-i-test.true) in
    (omega (arith, c.loop-i-test.true), body_more (network_in w).history c.loop-i.i less c.loop-i.sum c.size-sum.result c.loop-i.invariant.1 c.size-sum.ensures.0, omega (arith, c.loop-i.invariant.2, c.size-sum.ensures.1))

pub returns : goal.returns
returns c =
    let w = c.args.state.now in
    (body_done (network_in w).history c.loop-i.i c.loop-i.sum (omega (arith, c.requires.all, records_count w, c.loop-i-test.false)) c.loop-i.invariant.1, omega (arith, c.loop-i.invariant, c.requires.few))
