-- `shaped` tests the group, works the lines and the places of the sites out, and goes on with them unless the lines form a cycle.
use mathlib.Core.Path.{sym, ◌∙◌}
use Rattle.network_shape.proofs.ShapeLaws.{shape_no_group, shape_cyclic, shape_ranked, ranked}
use Rattle.network_shape.proofs.shaped.Goals as goal

pub returns-then-not-group_fits : goal.returns-then-not-group_fits
returns-then-not-group_fits c =
    let group = c.group_fits in
    shape_no_group c.args.state.now (sym group.ensures ∙ c.if-not-group_fits.true)

pub returns-then-is_cyclic : goal.returns-then-is_cyclic
returns-then-is_cyclic c =
    let items = c.wide-items in
    let lent = c.placed in
    let given = c.lines-given in
    let found = c.by_lines-places in
    shape_cyclic c.args.state.now c.requires (sym c.group_fits.ensures ∙ c.if-not-group_fits.false) items.result items.ensures lent.result.now lent.ensures given.result given.ensures found.result found.ensures
    (sym c.is_cyclic.ensures ∙ c.if-is_cyclic.true)

pub ranked_fits-requires : goal.ranked_fits-requires
ranked_fits-requires c =
    let items = c.wide-items in
    let lent = c.placed in
    let given = c.lines-given in
    let found = c.by_lines-places in
    ranked c.args.state.now c.requires (sym c.group_fits.ensures ∙ c.if-not-group_fits.false) items.result items.ensures lent.result.now lent.ensures given.result given.ensures found.result found.ensures

pub returns : goal.returns
returns c =
    let items = c.wide-items in
    let lent = c.placed in
    let given = c.lines-given in
    let found = c.by_lines-places in
    c.ranked_fits.ensures
    ∙ shape_ranked c.args.state.now c.requires (sym c.group_fits.ensures ∙ c.if-not-group_fits.false) items.result items.ensures lent.result.now lent.ensures given.result given.ensures found.result found.ensures
    (sym c.is_cyclic.ensures ∙ c.if-is_cyclic.false)
