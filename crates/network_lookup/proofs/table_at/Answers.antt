-- `table_at` gives the values in the site's own words.
use mathlib.Core.Path.{ap, ◌∙◌}
use lib.IntN.{pos}
use Rattle.lists.specs.Lists.{padded}
use Rattle.limits.specs.Limits.{items_most}
use Rattle.network_lookup.proofs.TableLaws.{values_there, table_is, table_count}
use Rattle.network_lookup.proofs.table_at.Goals as goal

pub values-requires : goal.values-requires
values-requires c =
    let lent = c.site_at-w in
    values_there c.args.state.now c.args.i c.requires lent.result.now lent.ensures _ c.item_count-count.ensures

pub returns : goal.returns
returns c =
    let w = c.args.state.now in
    let i = c.args.i in
    let lent = c.site_at-w in
    let ys = lent.result.now in
    let placed = c.item_count-count.ensures in
    record {
      count_is = table_count w i c.requires ys lent.ensures _ placed;
      values_are = c.values.ensures ∙ ap (padded items_most (pos 0)) (table_is w i c.requires ys lent.ensures _ placed);
    }
