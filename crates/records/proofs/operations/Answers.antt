-- `operations` lays one operation after another: the first i of the record.
use Prim.Native.Nat.{◌<◌}
use native.Mathlib.Omega.{arith}
use lib.ListN.{length}
use Rattle.records.specs.InWords.{record_in}
use Rattle.site_operations.proofs.Laws.{none_laid}
use Rattle.records.proofs.Laws.{laid_next, laid_all}
use Rattle.records.proofs.operations.Goals as goal

pub loop-i-init : goal.loop-i-init
loop-i-init c = none_laid

pub loop-i-preserved : goal.loop-i-preserved
loop-i-preserved c =
    let there : c.loop-i.i < length (record_in c.args.w.now).ops = omega (arith, c.count-i-end.ensures.0, c.loop-i-test.true) in
    laid_next c.args.w.now c.loop-i.i c.loop-i.out c.unpack.new.out there c.loop-i.invariant c.unpack.ensures

pub returns : goal.returns
returns c = laid_all c.args.w.now c.loop-i.i c.loop-i.out (omega (arith, c.count-i-end.ensures.0)) c.loop-i.invariant
