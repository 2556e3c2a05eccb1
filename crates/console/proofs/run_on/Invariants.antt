-- In `run_on` the state is that after the lines of what was read so far.
use mathlib.Core.List.{[]}
use Rattle.console.specs.Runs.{Went}
use Rattle.console.proofs.run_on.Given as goal

abbrev pub invariant-loop : goal.invariant-loop
invariant-loop g l = Went [] l.fn.state l.state l.at
