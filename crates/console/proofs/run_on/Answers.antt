-- `run_on` takes turns while the run goes on: the state is that after the lines of what was read so far.
use borrow.Author.Tests.{not-false}
use Rattle.console.proofs.Runs.{went_first, went_then, ran}
use Rattle.console.proofs.run_on.Goals as goal

pub loop-init : goal.loop-init
loop-init g c = went_first c.begun-at.ensures

pub loop-preserved : goal.loop-preserved
loop-preserved g c = went_then c.loop.invariant (not-false c.loop.at.more c.if-not-at.false) c.turn-at.ensures

pub returns-then-not-at : goal.returns-then-not-at
returns-then-not-at g c = ran c.loop.invariant

pub returns : goal.returns
returns g c = ran c.loop.invariant
