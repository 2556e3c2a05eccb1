-- `gevrolen_schedule` lays the parent and the timestamp that the schedule answers.
use Rattle.gevrolen_c.proofs.AnswerLaws.{scheduled_call}
use Rattle.gevrolen_c.proofs.gevrolen_schedule.Goals as goal

pub returns : goal.returns
returns c =
    let said = c.put_scheduled.ensures in
    scheduled_call _ _ _ _ _ _ _ c.schedule.ensures.performed _ _ said.0 said.1
