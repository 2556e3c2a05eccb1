-- `counts_number` asks the sites, then the items.
use Rattle.std.proofs.Common.{◌≡◌, ◌∙◌, ap, sym, Bool, [], ◌∷◌}
use Rattle.causes.proofs.Refusals.{refused_first, asked_next, asked_last}
use Rattle.limits.specs.Limits.{sites_most}
use Rattle.lists.specs.Numbers.{number_if, outside}
use Rattle.protocol.specs.Steps.{wrong_items}
use Rattle.network_set_up_counts.proofs.counts_number.Goals as goal

pub returns-in_err-refuse_if : goal.returns-in_err-refuse_if
returns-in_err-refuse_if c =
    let A = c.args in
    refused_first c.from_residual.result c.in_err-refuse_if.field-0.0 (number_if (outside 1 sites_most A.sites) 1) (number_if (wrong_items A.items A.primaries A.masks) 2 ∷ [])
    c.from_residual.ensures.1 (c.in_err-refuse_if.ensures ∙ ap (λ (x : Bool). number_if x 1) c.outside.ensures)

pub returns : goal.returns
returns c =
    let A = c.args in
    asked_next _ (number_if (outside 1 sites_most A.sites) 1) (number_if (wrong_items A.items A.primaries A.masks) 2 ∷ [])
    (c.in_ok-refuse_if.ensures ∙ ap (λ (x : Bool). number_if x 1) c.outside.ensures)
    (asked_last _ (number_if (wrong_items A.items A.primaries A.masks) 2) (c.refuse_if-2.ensures ∙ ap (λ (x : Bool). number_if x 2) c.items_wrong.ensures))
