-- `filled` hands on what the trailer says, with the places.
use mathlib.Core.Path.{◌∙◌}
use Rattle.history.proofs.LeadLaws.{filled_by}
use Rattle.history.proofs.filled.Goals as goal

pub returns : goal.returns
returns c =
    c.records_fill.ensures ∙ filled_by c.args.b.now c.places.result _ c.args.n c.sites_said-sites.result c.items_said-items.result c.requires.few c.places.ensures c.part_of.ensures c.sites_said-sites.ensures c.items_said-items.ensures
