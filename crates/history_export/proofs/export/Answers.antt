-- `export` tests the state.
use mathlib.Core.Path.{sym, ◌∙◌}
use borrow.Author.Tests.{not-true, not-false}
use Rattle.history_file.proofs.Exports.{export_unshaped}
use borrow.Author.Rules.{rules}
use Rattle.history_export.proofs.export.Goals as goal

pub returns-then-not-shaped : goal.returns-then-not-shaped
returns-then-not-shaped c =
    let A = c.args in
    export_unshaped A.state.now A.b.now (sym c.shaped.ensures ∙ not-true c.shaped.result c.if-not-shaped.true-raw)

pub export_on-requires : goal.export_on-requires
export_on-requires c =
    record { sized = search rules; formed = sym c.shaped.ensures ∙ not-false c.shaped.result c.if-not-shaped.false-raw }
