-- `name` writes one number.
use mathlib.Core.Path.{refl}
use native.Mathlib.Omega.{arith}
use Rattle.network_point.proofs.name.Goals as goal

pub returns-then-goes : goal.returns-then-goes
returns-then-goes c = let goes = c.if-goes.true in rw goes (record { is = refl; count = omega arith })

pub returns : goal.returns
returns c = let goes = c.if-goes.false in rw goes (record { is = refl; count = refl })
