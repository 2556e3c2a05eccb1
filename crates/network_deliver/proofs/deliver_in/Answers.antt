-- `deliver_in` tests the shape, and goes on where it is that of a network.
use mathlib.Core.Path.{sym, ◌∙◌}
use borrow.Author.Tests.{not-true, not-false}
use Rattle.network_deliver.proofs.DeliverLaws.{deliver_unshaped}
use Rattle.network_deliver.proofs.deliver_in.Goals as goal

pub returns-then-not-shaped : goal.returns-then-not-shaped
returns-then-not-shaped c =
    let A = c.args in
    deliver_unshaped A.state.now A.parent A.child (sym c.shaped.ensures ∙ not-true c.shaped.result c.if-not-shaped.true-raw)

pub deliver_on-requires : goal.deliver_on-requires
deliver_on-requires c = record { sized = c.requires; formed = sym c.shaped.ensures ∙ not-false c.shaped.result c.if-not-shaped.false-raw }
