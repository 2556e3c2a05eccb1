-- `dummy_in` tests the shape, and goes on where it is that of a network.
use mathlib.Core.Path.{sym, ◌∙◌}
use borrow.Author.Tests.{not-true, not-false}
use Rattle.network_dummy.proofs.DummyLaws.{dummy_unshaped}
use Rattle.network_dummy.proofs.dummy_in.Goals as goal

pub returns-then-not-shaped : goal.returns-then-not-shaped
returns-then-not-shaped c =
    let A = c.args in
    dummy_unshaped A.state.now A.site (sym c.shaped.ensures ∙ not-true c.shaped.result c.if-not-shaped.true-raw)

pub dummy_on-requires : goal.dummy_on-requires
dummy_on-requires c =
    record { sized = c.requires; formed = sym c.shaped.ensures ∙ not-false c.shaped.result c.if-not-shaped.false-raw }
