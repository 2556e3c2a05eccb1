-- `record_from` tests that the part goes on, then that a valid record starts there.
use mathlib.Core.Path.{subst}
use native.Mathlib.Omega.{arith}
use Rattle.timestamp_order.specs.Order.{rank}
use Rattle.history_file.specs.Promises.{Step, Gives}
use Rattle.history_file.proofs.Held.{step_ended, step_wrong, step_inside, step_fits, step_right}
use Rattle.history_record.proofs.record_from.Goals as goal

pub returns-then-part-at : goal.returns-then-part-at
returns-then-part-at c =
    let A = c.args in
    subst (λ (s : Step). Gives s c.refused.result) (step_ended A.part.now A.at (rank A.places) A.sites A.items c.if-part-at.true) c.refused.ensures

pub returns-then-size-eq0 : goal.returns-then-size-eq0
returns-then-size-eq0 c =
    let A = c.args in
    subst (λ (s : Step). Gives s c.refused-then-size-eq0.result) (step_wrong A.part.now A.at (rank A.places) A.sites A.items c.if-part-at.false c.step-size.result c.step-size.ensures c.if-size-eq0.true) c.refused-then-size-eq0.ensures

pub overflow_add-at : goal.overflow_add-at
overflow_add-at c =
    let A = c.args in
    omega (arith, step_inside A.part.now A.at (rank A.places) A.sites A.items c.if-part-at.false c.step-size.result c.step-size.ensures c.if-size-eq0.false)

pub found-requires : goal.found-requires
found-requires c =
    let A = c.args in
    let fits = step_fits A.part.now A.at (rank A.places) A.sites A.items c.if-part-at.false c.step-size.result c.step-size.ensures c.if-size-eq0.false in
    record { inside = fits.0; few_tuples = fits.1; few_ops = fits.2 }

pub returns : goal.returns
returns c =
    let A = c.args in
    subst (λ (s : Step). Gives s c.found.result) (step_right A.part.now A.at (rank A.places) A.sites A.items c.if-part-at.false c.step-size.result c.step-size.ensures c.if-size-eq0.false) c.found.ensures
