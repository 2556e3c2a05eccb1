-- `holdings` reads the three counts.
use mathlib.Core.Path.{sym, ◌∙◌}
use Rattle.network_layout.proofs.Performs.{sites_count, items_count, records_count}
use Rattle.network_state.proofs.holdings.Goals as goal

pub returns : goal.returns
returns c =
    let w = c.args.state.now in
    (c.site_count.ensures ∙ sym (sites_count w), c.item_count.ensures ∙ sym (items_count w 0), c.record_count.ensures ∙ sym (records_count w))
