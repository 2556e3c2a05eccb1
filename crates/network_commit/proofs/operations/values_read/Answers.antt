-- `values_read` adds one value after another: they are those of the reads among the first i operations.
use mathlib.Core.Path.{◌≡◌, refl, ap, ◌∙◌}
use native.Mathlib.Omega.{arith}
use Prim.Native.Nat.{ℕ, ◌-◌}
use lib.IntN.{pos}
use Rattle.lists.proofs.Filled.{filled_more}
use Rattle.words.specs.Words.{chunks}
use Rattle.site_operations.specs.Operations.{values_read}
use Rattle.site_operations.specs.InWords.{ops_in}
use Rattle.limits.specs.Limits.{ops_most}
use Rattle.network_commit.proofs.OperationWords.{read_next}
use Rattle.network_commit.proofs.operations.values_read.Goals as goal

pub loop-i-init : goal.loop-i-init
unfolding chunks
loop-i-init c = (omega arith, omega arith, refl, record { fits = omega arith; sized = refl; rest_is = refl })

pub loop-i-preserved : goal.loop-i-preserved
loop-i-preserved c =
    let l = c.loop-i in
    let A = c.args in
    let q = c.value_read-count in
    (omega arith, q.ensures.0, read_next A.ops.now l.i l.count l.values l.invariant.2 q.result q.new.values q.ensures.1, filled_more (pos 0) ops_most l.count q.result l.values q.new.values l.invariant.3 q.ensures.2 (omega (arith, q.ensures.0)) q.auto.values q.ensures.3)
