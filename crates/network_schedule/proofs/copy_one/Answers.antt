-- `copy_one` lays the fields of an operation behind those before it.
use mathlib.Core.Path.{ap, ◌∙◌}
use mathlib.Core.List.{[], ◌∷◌, ◌++◌}
use Rattle.site_operations.specs.Operations.{Op}
use Rattle.site_operations.specs.InWords.{ops_in}
use Rattle.network_schedule.proofs.copy_one.Goals as goal

pub returns : goal.returns
returns c =
    let A = c.args in
    c.put.ensures.laid c.requires
    ∙ ap (λ (o : Op). ops_in A.count A.out.now ++ (o ∷ [])) (λ t. record { kind = c.kind.ensures t; item = c.item.ensures t; value = c.value.ensures t })
