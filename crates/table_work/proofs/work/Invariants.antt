use Rattle.std.proofs.Common.{min}
use Rattle.site_operations.specs.InWords.{ops_in, table_in}
use Rattle.limits.specs.Limits.{ops_most}
use Rattle.table_work.proofs.Progress.{Progress}
use Rattle.table_work.proofs.work.Given as goal

abbrev pub invariant-loop-i : goal.invariant-loop-i
invariant-loop-i l = Progress (table_in l.initial.table) (ops_in (min l.n ops_most) l.ops) (table_in l.table) l.out l.i
