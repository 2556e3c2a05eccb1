-- `note_line` notes one message after another.
use mathlib.Core.Path.{refl, ◌∙◌}
use Prim.Native.Nat.{◌-◌}
use native.Mathlib.Omega.{arith}
use Rattle.lists.proofs.Folds.{fold_next, fold_done}
use Rattle.messages.specs.Messages.{commit}
use Rattle.network_earliest_writes.specs.Noted.{messages_on}
use Rattle.network_earliest_writes.proofs.note_line.Goals as goal

pub loop-i-init : goal.loop-i-init
loop-i-init c = (omega arith, refl, refl)

pub loop-i-preserved : goal.loop-i-preserved
loop-i-preserved c =
    let q = c.note_message in
    let A = c.args in (
      omega arith,
      q.auto.writers ∙ c.loop-i.invariant.1,
      fold_next _ _ _ (messages_on A.state.now A.k) c.loop-i.i c.loop-i.invariant.2 (commit 0) _ (omega (arith, c.line_held-n.ensures.0, c.loop-i-test.true)) q.ensures,
    )

pub shape_of-writers : goal.shape_of-writers
shape_of-writers c = c.loop-i.invariant.1

pub returns : goal.returns
returns c =
    let A = c.args in
    fold_done _ _ _ (messages_on A.state.now A.k) c.loop-i.i c.loop-i.invariant.2 (omega (arith, c.line_held-n.ensures.0, c.loop-i-test.false))
