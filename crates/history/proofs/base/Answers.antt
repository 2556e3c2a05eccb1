-- `base` reads the values from the bytes behind the table.
use mathlib.Core.Path.{◌∙◌}
use Rattle.history.proofs.LeadLaws.{base_few, base_values}
use Rattle.history.proofs.base.Goals as goal

pub values-requires : goal.values-requires
values-requires c = base_few c.args.b.now _ c.requires c.base_of.ensures

pub returns : goal.returns
returns c =
    c.values.ensures ∙ base_values c.args.b.now _ c.requires c.base_of.ensures
