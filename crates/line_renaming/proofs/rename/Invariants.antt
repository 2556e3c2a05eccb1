use Rattle.line_renaming.proofs.RenamingLaws.{RenamedBelow}
use Rattle.line_renaming.proofs.rename.Given as goal

abbrev pub invariant-loop-i : goal.invariant-loop-i
invariant-loop-i l = RenamedBelow l.names l.initial.l l.l l.i
