-- `ranked_fits` tests the sites, then the history, then the lines, then the base.
use mathlib.Core.Path.{sym, ◌∙◌}
use Rattle.timestamp_order.specs.Order.{rank}
use Rattle.network_shape.proofs.ShapeLaws.{sites_unfit, history_unfit, lines_unfit, ranked_by_base}
use Rattle.network_shape.proofs.ranked_fits.Goals as goal

pub returns-then-not-sites_fit : goal.returns-then-not-sites_fit
returns-then-not-sites_fit c =
    let A = c.args in
    sites_unfit A.state.now (rank A.places) (sym c.sites_fit.ensures ∙ c.if-not-sites_fit.true)

pub returns-then-not-history_fits : goal.returns-then-not-history_fits
returns-then-not-history_fits c =
    let A = c.args in
    history_unfit A.state.now (rank A.places) (sym c.sites_fit.ensures ∙ c.if-not-sites_fit.false) (sym c.history_fits.ensures ∙ c.if-not-history_fits.true)

pub returns-then-not-lines_fit : goal.returns-then-not-lines_fit
returns-then-not-lines_fit c =
    let A = c.args in
    lines_unfit A.state.now (rank A.places) (sym c.sites_fit.ensures ∙ c.if-not-sites_fit.false) (sym c.history_fits.ensures ∙ c.if-not-history_fits.false) (sym c.lines_fit.ensures ∙ c.if-not-lines_fit.true)

pub returns : goal.returns
returns c =
    let A = c.args in
    c.base_fits.ensures ∙ ranked_by_base A.state.now (rank A.places) (sym c.sites_fit.ensures ∙ c.if-not-sites_fit.false) (sym c.history_fits.ensures ∙ c.if-not-history_fits.false) (sym c.lines_fit.ensures ∙ c.if-not-lines_fit.false)
