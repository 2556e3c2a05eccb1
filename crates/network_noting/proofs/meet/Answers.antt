-- `meet` keeps the last comparison, or makes another.
use mathlib.Core.Path.{◌≡◌, refl, ap, ap₂, ◌∙◌}
use mathlib.Core.Bool.{Bool, not, cond}
use Rattle.timestamp_order.specs.Order.{is_earlier}
use Rattle.network_layout.specs.InWords.{network_in}
use Rattle.network_layout.proofs.OnNetwork.{compared}
use Rattle.network_noting.specs.Noting.{is_sooner}
use Rattle.network_noting.proofs.NotingLaws.{differs}
use Rattle.network_noting.proofs.meet.Goals as goal

pub returns : goal.returns
returns c =
    let n = network_in c.args.state.now in
    let told : c.is_earlier.result ≡ is_sooner n c.args.r c.args.noted
    = c.is_earlier.ensures
    ∙ ap is_earlier (compared c.args.state.now c.args.places c.requires.places_are c.compare_records-found.ensures)
    ∙ ap₂ {C = Bool} (is_sooner n) refl refl in
    (refl, differs c.is_earlier.result c.args.latest ∙ ap (λ (b : Bool). cond c.args.latest (not b) b) told)
