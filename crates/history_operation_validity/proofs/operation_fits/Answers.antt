-- `operation_fits` tests the 00 bytes, the kind and the item.
use mathlib.Core.Path.{◌≡◌}
use borrow.Author.Tests.{not-true, not-false}
use Rattle.history_operation_validity.proofs.FitLaws.{op_unpadded, kind_unknown, item_asked}
use Rattle.words.specs.Words.{part}
use Rattle.history_file.specs.Bytes.{all_zero}
use Rattle.history_operation_validity.proofs.operation_fits.Goals as goal
use Rattle.history_operation_validity.proofs.operation_fits.Goals.{After-zeros}

-- the bytes tested are the third and the fourth
pads_tested : (c : After-zeros) → c.zeros.result ≡ all_zero (part c.args.u.now 2 2)
pads_tested c = c.zeros.ensures

pub returns-then-not-zeros : goal.returns-then-not-zeros
returns-then-not-zeros c =
    let z = c.zeros in
    let A = c.args in
    op_unpadded A.items A.u.now z.result (pads_tested (goal.at.returns-then-not-zeros c).After-zeros) (not-true z.result c.if-not-zeros.true-raw)

pub returns-then-u-gt1 : goal.returns-then-u-gt1
returns-then-u-gt1 c =
    let z = c.zeros in
    let A = c.args in
    kind_unknown A.items A.u.now z.result (pads_tested (goal.at.returns-then-u-gt1 c).After-zeros) (not-false z.result c.if-not-zeros.false-raw) c.if-u-gt1.true

pub returns : goal.returns
returns c =
    let z = c.zeros in
    let A = c.args in
    item_asked A.items A.u.now z.result (pads_tested (goal.at.returns c).After-zeros) (not-false z.result c.if-not-zeros.false-raw) c.if-u-gt1.false c.wide.result c.wide.ensures
