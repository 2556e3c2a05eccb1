-- `work` does one operation after another: the first i are laid as the history keeps them, and those from i on give with the table as it is what all of them give.
use Rattle.std.proofs.Common.{◌≡◌, sym, subst, ℕ, min, arith}
use Rattle.site_operations.specs.Operations.{worked}
use Rattle.site_operations.specs.InWords.{ops_in, table_in, OpsLaid}
use Rattle.limits.specs.Limits.{ops_most}
use Rattle.table_work.proofs.Progress.{none_worked, next_worked, table_done, ops_laid}
use Rattle.table_work.proofs.work.Goals as goal

pub loop-i-init : goal.loop-i-init
loop-i-init c =
    let A = c.args in
    none_worked (table_in A.table.now) (min A.n ops_most) A.ops.now

pub loop-i-preserved : goal.loop-i-preserved
loop-i-preserved c =
    let q = c.work_one in
    let A = c.args in
    next_worked (table_in A.table.now) (min A.n ops_most) A.ops.now (table_in c.loop-i.table) c.loop-i.i (omega arith) (table_in q.new.table) q.ensures.1 c.loop-i.out q.new.out (omega arith) q.ensures.0 c.loop-i.invariant

pub returns : goal.returns
returns c =
    let A = c.args in
    let k = min A.n ops_most in
    let all : c.loop-i.i ≡ k = omega arith in
    record {
      table_is = sym (table_done (table_in A.table.now) k A.ops.now (table_in c.loop-i.table) c.loop-i.i (omega arith) c.loop-i.invariant.table_left);
      kept = subst (λ (i : ℕ). OpsLaid i (worked (table_in A.table.now) (ops_in k A.ops.now)).ops c.loop-i.out) all
          (ops_laid (table_in A.table.now) k A.ops.now (table_in c.loop-i.table) c.loop-i.i (omega arith) c.loop-i.out c.loop-i.invariant);
    }
