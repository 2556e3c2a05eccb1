use Rattle.decimal.proofs.Values.{Walked}
use Rattle.decimal.proofs.value.Given as goal

abbrev pub invariant-loop-d : goal.invariant-loop-d
invariant-loop-d l = Walked l.text l.v l.d-index
