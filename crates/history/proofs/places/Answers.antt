-- `places` reads the table from what leads the records.
use mathlib.Core.Path.{◌∙◌}
use Rattle.history.proofs.LeadLaws.{lead_places}
use Rattle.history.proofs.places.Goals as goal

pub returns : goal.returns
returns c =
    c.table.ensures ∙ lead_places c.args.b.now _ c.table_of.ensures
