use lib.ListN.{take}
use Rattle.site_operations.specs.InWords.{OpsLaid}
use Rattle.records.specs.InWords.{record_in}
use Rattle.records.proofs.operations.Given as goal

abbrev pub invariant-loop-i : goal.invariant-loop-i
invariant-loop-i l = OpsLaid l.i (take l.i (record_in l.w).ops) l.out
