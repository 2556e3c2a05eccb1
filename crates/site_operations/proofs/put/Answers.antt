-- `put` lays the three words where there is a place for them.
use mathlib.Core.Path.{refl}
use mathlib.Core.List.{[], ◌∷◌}
use native.Mathlib.Omega.{arith}
use Rattle.site_operations.specs.InWords.{op_of}
use Rattle.site_operations.proofs.Laws.{laid_op, laid_behind, laid_size}
use Rattle.site_operations.proofs.put.Goals as goal

pub returns-then-i-lt-OPERATIONS_WIDE : goal.returns-then-i-lt-OPERATIONS_WIDE
returns-then-i-lt-OPERATIONS_WIDE c =
    let A = c.args in
    let there = c.if-i-lt-OPERATIONS_WIDE.true in
    record {
      laid = λ h. laid_op A.out.now c.lay.new.w A.i A.kind A.item A.value (op_of A.kind A.item A.value) (omega (arith, c.well_formed)) h c.lay.ensures refl;
      behind = λ h. laid_behind A.out.now c.lay.new.w (A.kind ∷ (A.item ∷ (A.value ∷ []))) A.i refl (omega (arith, c.well_formed)) h c.lay.ensures;
      kept = λ h. absurd (omega arith);
      size = laid_size A.out.now c.lay.new.w (A.kind ∷ (A.item ∷ (A.value ∷ []))) A.i refl (omega (arith, c.well_formed)) there c.lay.ensures;
    }
