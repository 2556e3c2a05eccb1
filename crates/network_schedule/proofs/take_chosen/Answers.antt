-- `take_chosen` does the chosen parent's oldest message at the site and takes it off its line.
use mathlib.Core.Path.{◌∙◌}
use Rattle.network_layout.specs.At.{AtLine}
use Rattle.network_choice.proofs.ChoiceLaws.{best_line, parent_line}
use Rattle.network_schedule.proofs.ScheduleLaws.{schedule_done}
use borrow.Author.Rules.{rules}
use Rattle.network_schedule.proofs.take_chosen.Goals as goal

pub receive-requires : goal.receive-requires
receive-requires c =
    let A = c.args in
    let best = c.chosen-best.result in
    record { free = c.requires; line = best_line A.state.now A.j c.requires best.parent best.stamp c.chosen-best.ensures }

pub line_take-requires : goal.line_take-requires
line_take-requires c =
    let A = c.args in
    let best = c.chosen-best.result in
    let line = best_line A.state.now A.j c.requires best.parent best.stamp c.chosen-best.ensures in
    let at : AtLine c.receive.new.state c.line_number.result
    = record {
      sized = c.receive.auto.state ∙ c.requires.net.sized;
      ranged = c.receive.ensures.ranged;
      few = (parent_line A.state.now A.j c.requires best.parent line c.line_number.result c.line_number.ensures).few;
    } in
    search rules

pub returns : goal.returns
returns c =
    let A = c.args in
    let best = c.chosen-best.result in
    schedule_done A.state.now A.j c.requires c.receive.new.state c.line_take.new.state best.parent best.stamp c.line_number.result c.line_number.ensures c.chosen-best.ensures c.receive.ensures c.line_take.ensures
