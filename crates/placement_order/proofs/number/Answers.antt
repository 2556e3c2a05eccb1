-- `number` asks the items, then for a cycle.
use Rattle.std.proofs.Common.{◌≡◌, ◌∙◌, ap, Bool, List, [], ◌∷◌, ℕ}
use Rattle.std.specs.Prelude.{eqb, min}
use Rattle.causes.proofs.Refusals.{refused_first, asked_next, asked_last}
use Rattle.limits.specs.Limits.{sites_most, items_most}
use Rattle.lists.specs.Lists.{any}
use Rattle.lists.specs.Numbers.{number_if}
use Rattle.placement.specs.InWords.{items_in}
use Rattle.placement.specs.Placement.{items_number}
use Rattle.placement.specs.Places.{cyclic, placement_number}
use Rattle.placement_order.proofs.number.Goals as goal

pub returns-in_err-number : goal.returns-in_err-number
unfolding placement_number
returns-in_err-number c =
    refused_first c.from_residual.result c.in_err-number.field-0.0 (items_number c.args.sites (items_in (min c.args.items items_most) c.args.w.now)) (number_if (cyclic (items_in (min c.args.items items_most) c.args.w.now)) 5 ∷ []) c.from_residual.ensures.1 c.in_err-number.ensures

pub returns : goal.returns
unfolding placement_number cyclic
returns c =
    let xs = items_in (min c.args.items items_most) c.args.w.now in
    let cycle : c.is_cyclic.result ≡ cyclic xs = c.is_cyclic.ensures ∙ ap (λ (ps : List ℕ). any (λ q. eqb q sites_most) ps) c.places.ensures in
    asked_next _ (items_number c.args.sites xs) (number_if (cyclic xs) 5 ∷ []) c.in_ok-number.ensures
    (asked_last _ (number_if (cyclic xs) 5) (c.refuse_if.ensures ∙ ap (λ (b : Bool). number_if b 5) cycle))
