-- `compare_words` tells the epochs apart; the tuples decide where they are the same.
use mathlib.Core.Path.{◌≡◌, sym, ap₂, ◌∙◌}
use borrow.Author.Rules.{rules}
use Rattle.timestamp_order.specs.declared.Order.{Order}
use Rattle.timestamp_order.specs.Order.{number_order, rank}
use Rattle.timestamp_order.proofs.PartingLaws.{other_epochs}
use Rattle.timestamp_words.specs.InWords.{stamp_in}
use Rattle.timestamp_comparison.proofs.compare_words.Goals as goal

pub returns-then-ne : goal.returns-then-ne
returns-then-ne c =
    let A = c.args in
    let e = c.epoch_in-e in
    let f = c.epoch_in-f in
    let differ : e.result.0 ≡ f.result.0 → ⊥ = search rules in
    let by-epoch : c.compare_epochs.result ≡ number_order e.result.0 f.result.0 = c.compare_epochs.ensures in
    let told = other_epochs (rank A.places) (stamp_in A.a.now) (stamp_in A.b.now) (λ s. differ (e.ensures ∙ s ∙ sym f.ensures)) in
    record { order_is = by-epoch ∙ ap₂ {C = Order} number_order e.ensures f.ensures ∙ told.order_is; parting_is = told.parting_is }
