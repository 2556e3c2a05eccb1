-- `parents` asks the placement's own words.
use Rattle.std.proofs.Common.{◌∙◌, ap, List}
use Rattle.limits.specs.Limits.{sites_most}
use Rattle.placement.specs.Masks.{mask_of}
use Rattle.placement.specs.Placement.{Item, is_line}
use Rattle.network_placement.proofs.PlacementLaws.{items_lent}
use Rattle.network_placement.proofs.parents.Goals as goal

pub returns : goal.returns
returns c =
    c.parents.ensures
    ∙ ap (λ (xs : List Item). mask_of (λ p. is_line xs p c.args.c) sites_most) (items_lent c.args.state.now c.requires c.placed.result.now c.placed.ensures c.item_count.result c.item_count.ensures)
