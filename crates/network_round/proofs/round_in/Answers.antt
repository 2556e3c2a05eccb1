-- `round_in` tests the shape, and goes on where it is that of a network.
use mathlib.Core.Path.{sym, ◌∙◌}
use borrow.Author.Tests.{not-true, not-false}
use Rattle.network_round.proofs.RoundLaws.{round_unshaped}
use Rattle.network_round.proofs.round_in.Goals as goal

pub returns-then-not-shaped : goal.returns-then-not-shaped
returns-then-not-shaped c =
    round_unshaped c.args.state.now (sym c.shaped.ensures ∙ not-true c.shaped.result c.if-not-shaped.true-raw)

pub round_on-requires : goal.round_on-requires
round_on-requires c = record { sized = c.requires; formed = sym c.shaped.ensures ∙ not-false c.shaped.result c.if-not-shaped.false-raw }
