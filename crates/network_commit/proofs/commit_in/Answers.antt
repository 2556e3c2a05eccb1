-- `commit_in` tests the shape, and goes on where it is that of a network.
use mathlib.Core.Path.{sym, ◌∙◌}
use borrow.Author.Tests.{not-true, not-false}
use Rattle.network_commit.proofs.CommitLaws.{commit_unshaped}
use Rattle.network_commit.proofs.commit_in.Goals as goal

pub returns-then-not-shaped : goal.returns-then-not-shaped
returns-then-not-shaped c =
    let A = c.args in
    commit_unshaped A.state.now A.site A.kinds.now A.items.now A.values.now (sym c.shaped.ensures ∙ not-true c.shaped.result c.if-not-shaped.true-raw)

pub commit_on-requires : goal.commit_on-requires
commit_on-requires c =
    record { sized = c.requires; formed = sym c.shaped.ensures ∙ not-false c.shaped.result c.if-not-shaped.false-raw }
