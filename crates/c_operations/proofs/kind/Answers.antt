-- `kind` is the word where it fits a byte, else 255.
use native.Mathlib.Omega.{arith}
use Rattle.c_operations.proofs.kind.Goals as goal

pub returns : goal.returns
returns c = omega arith
