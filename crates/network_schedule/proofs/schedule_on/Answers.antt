-- `schedule_on` is refused, or takes the chosen message.
use Rattle.network_schedule.proofs.ScheduleLaws.{schedule_refused}
use Rattle.network_schedule.proofs.schedule_on.Goals as goal

pub returns-in_err-schedule_number : goal.returns-in_err-schedule_number
returns-in_err-schedule_number c =
    let A = c.args in
    schedule_refused A.state.now c.requires A.site c.from_residual.result c.in_err-schedule_number.field-0.0 c.from_residual.ensures.1 c.in_err-schedule_number.ensures
