use Rattle.decimal_printing.proofs.Spelling.{Spelt}
use Rattle.decimal_printing.proofs.spell.Given as goal

abbrev pub invariant-loop-m : goal.invariant-loop-m
invariant-loop-m l = Spelt l.initial.out l.out l.at l.n l.m l.i

abbrev pub decreases-loop-m : goal.decreases-loop-m
decreases-loop-m l = l.m
