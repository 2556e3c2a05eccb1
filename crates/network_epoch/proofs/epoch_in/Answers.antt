-- `epoch_in` tests the shape, and goes on where it is that of a network.
use mathlib.Core.Path.{sym, ◌∙◌}
use borrow.Author.Tests.{not-true, not-false}
use Rattle.network_epoch.proofs.EpochLaws.{epoch_unshaped}
use Rattle.network_epoch.proofs.epoch_in.Goals as goal

pub returns-then-not-shaped : goal.returns-then-not-shaped
returns-then-not-shaped c =
    let A = c.args in
    epoch_unshaped A.state.now A.site A.to (sym c.shaped.ensures ∙ not-true c.shaped.result c.if-not-shaped.true-raw)

pub epoch_on-requires : goal.epoch_on-requires
epoch_on-requires c = record { sized = c.requires; formed = sym c.shaped.ensures ∙ not-false c.shaped.result c.if-not-shaped.false-raw }
