-- `records_fill` goes from record to record: what is left of them fills what is left of the bytes.
use mathlib.Core.Path.{◌≡◌, ap}
use Prim.Native.Nat.{ℕ, ◌-◌}
use native.Mathlib.Omega.{arith}
use Rattle.timestamp_order.specs.Order.{rank}
use Rattle.history_file.specs.Reading.{records_fill}
use Rattle.history_file.proofs.Validity.{fill_done, fill_stops, fill_next, step_valid}
use Rattle.history_part.proofs.records_fill.Goals as goal

pub loop-i-init : goal.loop-i-init
loop-i-init c =
    let A = c.args in
    let z : A.n ≡ A.n - 0 = omega arith in
    (omega arith, omega arith, ap (λ (k : ℕ). records_fill (rank A.places) A.sites A.items k A.b.now) z)

pub returns-then-more-eq0 : goal.returns-then-more-eq0
returns-then-more-eq0 c =
    let A = c.args in
    fill_stops (rank A.places) A.sites A.items A.n A.b.now c.loop-i.i c.loop-i.at c.loop-i.invariant.2 c.loop-i-test.true c.step-more.result c.step-more.ensures c.if-more-eq0.true

pub overflow_add-at : goal.overflow_add-at
overflow_add-at c =
    let A = c.args in
    omega (arith, (step_valid (rank A.places) A.sites A.items A.b.now c.loop-i.at c.step-more.result c.step-more.ensures c.if-more-eq0.false).2 c.loop-i.invariant.1)

pub loop-i-preserved : goal.loop-i-preserved
loop-i-preserved c =
    let A = c.args in
    (omega (arith, c.loop-i-test.true), (step_valid (rank A.places) A.sites A.items A.b.now c.loop-i.at c.step-more.result c.step-more.ensures c.if-more-eq0.false).2 c.loop-i.invariant.1, fill_next (rank A.places) A.sites A.items A.n A.b.now c.loop-i.i c.loop-i.at c.loop-i.invariant.2 c.loop-i-test.true c.step-more.result c.step-more.ensures c.if-more-eq0.false)

pub returns : goal.returns
returns c =
    let A = c.args in
    fill_done (rank A.places) A.sites A.items A.n A.b.now c.loop-i.i c.loop-i.at c.loop-i.invariant.2 c.loop-i-test.false c.loop-i.invariant.1
