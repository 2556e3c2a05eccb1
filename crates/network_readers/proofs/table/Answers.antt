-- `table` refuses with its number, or reads the table.
use Rattle.std.proofs.Common.{◌∙◌, refl, sym, ap, [], length}
use Rattle.std.specs.Prelude.{pos}
use Rattle.lists.specs.Lists.{padded}
use Rattle.limits.specs.Limits.{items_most}
use Rattle.protocol.specs.Questions.{table, question_number}
use Rattle.network_layout.proofs.Questions.{asked, answered, site_asked}
use Rattle.network_lookup.specs.Lookup.{table_of}
use Rattle.network_readers.proofs.ReaderLaws.{table_refused}
use borrow.Author.Rules.{rules}
use Rattle.network_readers.proofs.table.Goals as goal

pub returns-in_err-site_number : goal.returns-in_err-site_number
returns-in_err-site_number c =
    table_refused c.args.state.now c.args.site c.from_residual.result c.in_err-site_number.field-0.0 c.from_residual.ensures.1 c.in_err-site_number.ensures

pub table_at-requires : goal.table_at-requires
table_at-requires c =
    let A = c.args in
    site_asked A.state.now (search rules) A.site A.site refl (sym c.in_ok-site_number.ensures)

pub returns : goal.returns
unfolding question_number
returns c =
    let A = c.args in
    let w = A.state.now in
    let none = sym c.in_ok-site_number.ensures in
    let e = c.table_at.ensures in
    let same = answered (table A.site) w [] (table_of A.site) none in
    record {
      performed = asked (table A.site) w 0 (sym none);
      count_is = e.count_is ∙ ap length same;
      values_are = e.values_are ∙ ap (padded items_most (pos 0)) same;
    }
