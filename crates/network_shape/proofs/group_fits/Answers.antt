-- `group_fits` tests the counts, then the items.
use Rattle.std.proofs.Common.{◌∙◌, refl, get_or}
use borrow.Author.Tests.{not-true, not-false}
use Rattle.causes.specs.Refusals.{number_of}
use Rattle.causes.proofs.Refusals.{accepted}
use Rattle.network_shape.proofs.ShapeLaws.{group_uncounted, group_by_items}
use Rattle.network_shape.proofs.group_fits.Goals as goal

pub returns-then-not-counts_fit : goal.returns-then-not-counts_fit
returns-then-not-counts_fit c =
    let fit = c.counts_fit in
    group_uncounted c.args.state.now c.requires fit.result fit.ensures (not-true _ c.if-not-counts_fit.true-raw)

pub returns : goal.returns
returns c =
    let lent = c.placed in
    let fit = c.counts_fit in
    c.is_ok.ensures.value ∙ accepted c.number.result
    ∙ group_by_items c.args.state.now c.requires fit.result fit.ensures (not-false _ c.if-not-counts_fit.false-raw) (get_or c.args.state.now 1 0) refl lent.result.now lent.ensures (number_of c.number.result) c.number.ensures
