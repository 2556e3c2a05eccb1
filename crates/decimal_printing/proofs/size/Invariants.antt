use mathlib.Core.Path.{◌≡◌}
use Prim.Native.Nat.{◌+◌}
use lib.ListN.{length}
use Rattle.decimal.specs.Decimal.{digits}
use Rattle.decimal_printing.proofs.size.Given as goal

abbrev pub invariant-loop-m : goal.invariant-loop-m
invariant-loop-m l = l.k + length (digits l.m) ≡ length (digits l.n) + 1

abbrev pub decreases-loop-m : goal.decreases-loop-m
decreases-loop-m l = l.m
