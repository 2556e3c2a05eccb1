-- In `records` the lines stay within their buffer.
use Rattle.std.proofs.Common.{◌≤◌}
use Rattle.history_print.proofs.records.Given as goal

abbrev pub invariant-loop : goal.invariant-loop
invariant-loop g l = l.filled ≤ 65536
