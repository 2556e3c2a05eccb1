-- `value` walks the digits: what is told of the rest behind the value so far is what is told of all.
use Rattle.decimal.proofs.Values.{walk_out, walk_next, walk_end}
use Rattle.decimal.proofs.value.Goals as goal

pub returns-in_err-v : goal.returns-in_err-v
returns-in_err-v c = rw c.from_residual.ensures (walk_out c.args.text.now c.loop-d.v c.loop-d.d-index c.loop-d.invariant c.loop-d-test.true c.in_err-v.ensures)

pub loop-d-preserved : goal.loop-d-preserved
loop-d-preserved c = walk_next c.args.text.now c.loop-d.v c.loop-d.d-index c.loop-d.invariant c.loop-d-test.true c.in_ok-v.v c.in_ok-v.ensures

pub returns : goal.returns
returns c = walk_end c.args.text.now c.loop-d.v c.loop-d.d-index c.loop-d.invariant c.loop-d-test.false
