-- `schedule_once` schedules, and leaves none where it is refused.
use mathlib.Core.Path.{sym, ◌∙◌}
use Rattle.network_hearing.proofs.HearingLaws.{schedule_refused, schedule_done}
use Rattle.network_hearing.proofs.schedule_once.Goals as goal

pub returns-then-is_err : goal.returns-then-is_err
returns-then-is_err c =
    schedule_refused c.args.state.now c.args.j c.args.most c.requires c.schedule_on.new.state c.schedule_on.result (sym c.is_err.ensures.value ∙ c.if-is_err.true) c.schedule_on.ensures

pub returns : goal.returns
returns c =
    schedule_done c.args.state.now c.args.j c.args.most c.requires c.schedule_on.new.state c.schedule_on.result (sym c.is_err.ensures.value ∙ c.if-is_err.false) c.schedule_on.ensures (c.schedule_on.auto.state ∙ c.requires.walking.net.sized)
