-- `at_site_on` goes by the step.
use mathlib.Core.Path.{sym, ap}
use mathlib.Core.Bool.{Bool}
use mathlib.Core.Option.{some}
use Rattle.protocol.specs.Calls.{dummy, schedule}
use Rattle.script_notation.specs.Print.{print}
use Rattle.script_notation.proofs.Replying.{replied_as, replied_some}
use Rattle.script_calls.specs.Chosen.{site_call}
use Rattle.script_calls.proofs.at_site_on.Goals as goal

pub returns-then-schedules : goal.returns-then-schedules
unfolding print
returns-then-schedules c = let A = c.args in replied_as (ap (λ (b : Bool). some (site_call b A.site)) (sym c.if-schedules.true)) (replied_some (schedule A.site) c.schedule_on-scheduled.ensures.performed c.scheduled.ensures)

pub returns : goal.returns
unfolding print
returns c = let A = c.args in replied_as (ap (λ (b : Bool). some (site_call b A.site)) (sym c.if-schedules.false)) (replied_some (dummy A.site) c.dummy_on-dummied.ensures.performed c.dummied.ensures)
