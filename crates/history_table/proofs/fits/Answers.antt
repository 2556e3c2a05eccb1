-- `fits` tests that each place stands there once, then that they are not the numbers.
use borrow.Author.Tests.{not-true, not-false}
use Rattle.history_table.proofs.TableLaws.{table_unfit, table_by_numbers}
use Rattle.history_table.proofs.fits.Goals as goal

pub returns-then-not-each_once : goal.returns-then-not-each_once
returns-then-not-each_once c =
    let e = c.each_once in
    table_unfit c.args.b.now e.result e.ensures (not-true e.result c.if-not-each_once.true-raw)

pub returns : goal.returns
returns c =
    let e = c.each_once in
    table_by_numbers c.args.b.now e.result e.ensures (not-false e.result c.if-not-each_once.false-raw) c.are_numbers.result c.are_numbers.ensures
