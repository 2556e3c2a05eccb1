-- `copy_mask` reads the mask of an item that is there.
use Rattle.std.proofs.Common.{◌∙◌, ◌<◌, ap, arith}
use Rattle.network_layout.specs.Layout.{item_count}
use Rattle.placement.specs.Placement.{Item}
use Rattle.network_placement.proofs.PlacementLaws.{item_lent}
use Rattle.network_placement.proofs.copy_mask.Goals as goal

pub returns : goal.returns
returns c =
    let few : c.args.item < item_count c.args.state.now = omega (arith, c.item_count.ensures, c.if-item_count-item.false) in
    c.mask.ensures ∙ ap (λ (x : Item). x.mask) (item_lent c.args.state.now c.placed.result.now c.placed.ensures c.args.item few)
