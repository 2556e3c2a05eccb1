-- `operations_fit` leaves at the first operation that does not fit.
use mathlib.Core.Path.{◌≡◌, refl, sym, ap, ◌∙◌}
use Prim.Native.Nat.{◌-◌, ◌*◌}
use native.Mathlib.Omega.{arith}
use lib.ListN.{length}
use borrow.Author.Tests.{not-true, not-false}
use Rattle.words.specs.Words.{part}
use Rattle.words.proofs.Parts.{lent_part, part_length}
use Rattle.history_file.specs.Bytes.{unit_size}
use Rattle.history_file.proofs.Units.{units_done, unit_fails, unit_passes}
use Rattle.history_operation_validity.specs.Fits.{op_fit}
use Rattle.history_operation_validity.proofs.operations_fit.Goals as goal
use Rattle.history_operation_validity.proofs.operations_fit.Goals.{After-operation_fits}

-- what the test says of the operation of this turn
fits_here : (c : After-operation_fits) → c.operation_fits.result ≡ op_fit c.args.items (part c.args.b.now (c.loop-i.i * unit_size) unit_size)
fits_here c =
    let A = c.args in
    c.operation_fits.ensures ∙ ap (op_fit A.items) (lent_part A.b.now (c.loop-i.i * unit_size) unit_size)

pub loop-i-init : goal.loop-i-init
loop-i-init c = (omega arith, refl)

pub operation_fits-requires : goal.operation_fits-requires
operation_fits-requires c =
    ap length (lent_part c.args.b.now (c.loop-i.i * unit_size) unit_size) ∙ part_length c.args.b.now (c.loop-i.i * unit_size) unit_size (omega (arith, c.requires, c.loop-i-test.true))

pub returns-then-not-operation_fits : goal.returns-then-not-operation_fits
returns-then-not-operation_fits c =
    let A = c.args in
    sym (unit_fails (op_fit A.items) A.n A.b.now c.loop-i.i c.loop-i.invariant.1 c.loop-i-test.true (sym (fits_here (goal.at.returns-then-not-operation_fits c).After-operation_fits) ∙ not-true c.operation_fits.result c.if-not-operation_fits.true-raw))

pub loop-i-preserved : goal.loop-i-preserved
loop-i-preserved c =
    let A = c.args in
    (omega (arith, c.loop-i-test.true), unit_passes (op_fit A.items) A.n A.b.now c.loop-i.i c.loop-i.invariant.1 c.loop-i-test.true (sym (fits_here (goal.at.loop-i-preserved c).After-operation_fits) ∙ not-false c.operation_fits.result c.if-not-operation_fits.false-raw))

pub returns : goal.returns
returns c =
    let A = c.args in
    sym (units_done (op_fit A.items) A.n A.b.now c.loop-i.i c.loop-i.invariant.1 c.loop-i-test.false)
