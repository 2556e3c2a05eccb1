-- `waiting` refuses with its number, or reports the items.
use Rattle.std.proofs.Common.{◌∙◌, refl, sym, ap, [], length}
use Rattle.limits.specs.Limits.{items_most}
use Rattle.lists.specs.Lists.{padded}
use Rattle.protocol.specs.Questions.{waiting, question_number}
use Rattle.protocol.specs.Waiting.{waiting_items}
use Rattle.network_layout.proofs.Questions.{asked, answered, site_asked}
use Rattle.network_waiting.proofs.ReportLaws.{report_refused}
use borrow.Author.Rules.{rules}
use Rattle.network_waiting.proofs.waiting.Goals as goal

pub returns-in_err-site_number : goal.returns-in_err-site_number
returns-in_err-site_number c =
    report_refused c.args.state.now c.args.site c.from_residual.result c.in_err-site_number.field-0.0 c.from_residual.ensures.1 c.in_err-site_number.ensures

pub report-requires : goal.report-requires
report-requires c =
    let A = c.args in
    site_asked A.state.now (search rules) A.site A.site refl (sym c.in_ok-site_number.ensures)

pub returns : goal.returns
unfolding question_number
returns c =
    let A = c.args in
    let w = A.state.now in
    let none = sym c.in_ok-site_number.ensures in
    let e = c.report.ensures in
    let same = answered (waiting A.site) w [] (λ m. waiting_items m A.site) none in
    record {
      performed = asked (waiting A.site) w 0 (sym none);
      count_is = e.count_is ∙ ap length same;
      items_are = e.items_are ∙ ap (padded items_most 0) same;
      few = e.few;
    }
