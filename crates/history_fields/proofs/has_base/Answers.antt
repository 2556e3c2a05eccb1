-- `has_base` asks for the flag of weight 2.
use mathlib.Core.Path.{ap}
use Prim.Native.Nat.{ℕ, ◌/◌, ◌%◌}
use lib.Dec.{eqb}
use Rattle.history_fields.proofs.has_base.Goals as goal

pub returns : goal.returns
returns c = ap (λ (f : ℕ). eqb (f / 2 % 2) 1) c.flag_said.ensures
