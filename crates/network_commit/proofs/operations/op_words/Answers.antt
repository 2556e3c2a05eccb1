-- `op_words` lays one operation after another: the first i are those of the lists.
use mathlib.Core.Path.{refl}
use native.Mathlib.Omega.{arith}
use Prim.Native.Nat.{◌-◌}
use Rattle.words.specs.Words.{chunks}
use Rattle.network_commit.proofs.OperationWords.{ops_next, ops_all}
use Rattle.network_commit.proofs.operations.op_words.Goals as goal

pub loop-i-init : goal.loop-i-init
unfolding chunks
loop-i-init c = (omega arith, refl)

pub loop-i-preserved : goal.loop-i-preserved
loop-i-preserved c =
    let l = c.loop-i in
    let A = c.args in
    (omega arith, ops_next A.kinds.now A.items.now A.values.now l.out l.i l.invariant.1 c.op_word.new.out c.requires.each_item c.requires.each_value (omega arith) c.op_word.ensures)

pub returns : goal.returns
returns c =
    let A = c.args in
    let l = c.loop-i in
    ops_all A.kinds.now A.items.now A.values.now l.out l.i l.invariant.1 (omega arith)
