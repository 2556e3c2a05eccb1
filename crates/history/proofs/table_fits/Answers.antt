-- `table_fits` tests the table where there is one.
use borrow.Author.Tests.{not-true, not-false}
use Rattle.history.proofs.LeadLaws.{table_none, table_fit}
use Rattle.history.proofs.table_fits.Goals as goal

pub returns-then-not-has_table : goal.returns-then-not-has_table
returns-then-not-has_table c =
    table_none c.args.b.now c.has_table.result c.has_table.ensures (not-true c.has_table.result c.if-not-has_table.true-raw)

pub returns : goal.returns
returns c =
    table_fit c.args.b.now _ c.table_of.ensures c.has_table.result c.has_table.ensures (not-false c.has_table.result c.if-not-has_table.false-raw) c.fits.result c.fits.ensures
