-- `pack` stores the values one by one, and then the two words of codes.
use mathlib.Core.Path.{◌≡◌, subst}
use native.Mathlib.Omega.{arith}
use lib.ListN.{length-set}
use Rattle.limits.specs.Limits.{ops_most}
use Rattle.record_packing.proofs.Laws.{Valued, valued_next, packed}
use Rattle.record_packing.proofs.pack.Goals as goal

pub loop-i-init : goal.loop-i-init
loop-i-init c = (omega arith, c.requires.sized, λ j h. absurd (omega arith))

pub loop-i-preserved : goal.loop-i-preserved
loop-i-preserved c =
    let l = c.loop-i in
    let A = c.args in
    (omega arith, simp length-set l.invariant.1, valued_next A.ops.now l.w l.invariant.1 l.i c.value.result _ (omega arith) c.loop-i-test.true l.invariant.2 c.value.ensures)

pub returns : goal.returns
returns c =
    let l = c.loop-i in
    let A = c.args in
    let all : l.i ≡ ops_most = omega arith in
    packed A.ops.now l.w l.invariant.1 (subst (Valued A.ops.now l.w) all l.invariant.2) c.four.result c.four-2.result c.four.ensures c.four-2.ensures
