-- `commit` works the operations on the table, and raises the own count.
use mathlib.Core.Path.{subst, ◌∙◌}
use mathlib.Core.List.{List}
use Prim.Native.Nat.{min}
use native.Mathlib.Omega.{arith}
use lib.IntN.{ℤ}
use Rattle.words.specs.Words.{put}
use Rattle.words.proofs.Parts.{part_length}
use Rattle.timestamp.specs.Value.{stamp_of}
use Rattle.timestamp_order.specs.Timestamp.{raised_or_same}
use Rattle.timestamp_words.specs.InWords.{stamp_size}
use Rattle.site_operations.specs.Operations.{worked}
use Rattle.site.specs.Site.{committed}
use Rattle.site.specs.InWords.{site_in, table_size}
use Rattle.site_operations.specs.InWords.{ops_in, OpsLaid}
use Rattle.limits.specs.Limits.{ops_most}
use Rattle.site.proofs.Laws.{table_law, table_put, stepped, changed, unchanged}
use Rattle.site_operations.proofs.Laws.{none_laid}
use Rattle.site.proofs.commit.Goals as goal

pub returns-then-part-ne-WORDS : goal.returns-then-part-ne-WORDS
returns-then-part-ne-WORDS c =
    let A = c.args in
    record { changed = unchanged A.part.now (committed (ops_in (min A.n ops_most) A.ops.now)) c.if-part-ne-WORDS.true; sized = λ h. absurd (c.if-part-ne-WORDS.true h); unsized = λ _. none_laid }

pub returns : goal.returns
returns c =
    let A = c.args in
    let size = c.if-part-ne-WORDS.false in
    let w = A.part.now in
    let ys = c.work-done.new.table in
    let os = ops_in (min A.n ops_most) A.ops.now in
    record {
      changed = changed w (committed os) c.put_stamp.new.part size
          (stepped (site_in w) (site_in (put w stamp_size table_size ys)) (site_in c.put_stamp.new.part) (worked (site_in w).table os).table
          raised_or_same (stamp_of c.stamp.result) (stamp_of c.raise.result)
          (table_put w size ys os (c.work-done.auto.table ∙ part_length w stamp_size table_size (omega arith)) c.work-done.ensures.table_is)
          c.stamp.ensures.means c.raise.ensures.means c.put_stamp.ensures.0) c.put_stamp.ensures.1;
      sized = λ _. subst (λ (b : List ℤ). OpsLaid (min A.n ops_most) (worked b os).ops c.work-done.result) (table_law w) c.work-done.ensures.kept;
      unsized = λ h. absurd (h size);
    }
