-- `collect_in` tests the shape, and goes on where it is that of a network.
use mathlib.Core.Path.{sym, ◌∙◌}
use borrow.Author.Tests.{not-true, not-false}
use Rattle.network_collect.proofs.CollectLaws.{collect_unshaped}
use Rattle.network_collect.proofs.collect_in.Goals as goal

pub returns-then-not-shaped : goal.returns-then-not-shaped
returns-then-not-shaped c =
    collect_unshaped c.args.state.now (sym c.shaped.ensures ∙ not-true c.shaped.result c.if-not-shaped.true-raw)

pub collect_on-requires : goal.collect_on-requires
collect_on-requires c = record { sized = c.requires; formed = sym c.shaped.ensures ∙ not-false c.shaped.result c.if-not-shaped.false-raw }
