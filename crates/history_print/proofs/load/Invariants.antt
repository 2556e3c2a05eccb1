-- `load` reads on until nothing comes or the buffer is full.
use Rattle.std.proofs.Common.{length, ◌-◌, ◌≤◌}
use Rattle.history_print.proofs.load.Given as goal

abbrev pub invariant-loop-filled : goal.invariant-loop-filled
invariant-loop-filled g l = l.filled ≤ length l.fn.file

abbrev pub decreases-loop-filled : goal.decreases-loop-filled
decreases-loop-filled g l = length l.fn.file - l.filled
