-- `base_in` tests the shape, and goes on where it is that of a network.
use mathlib.Core.Path.{sym, ◌∙◌}
use borrow.Author.Tests.{not-true, not-false}
use Rattle.network_base.proofs.BaseLaws.{base_refused}
use Rattle.network_base.proofs.base_in.Goals as goal

pub returns-then-not-shaped : goal.returns-then-not-shaped
returns-then-not-shaped c =
    let tested = c.shaped in
    base_refused c.args.state.now (sym tested.ensures ∙ not-true _ c.if-not-shaped.true-raw)

pub base_on-requires : goal.base_on-requires
base_on-requires c = record { sized = c.requires; formed = sym c.shaped.ensures ∙ not-false _ c.if-not-shaped.false-raw }
