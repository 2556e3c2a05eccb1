-- `reaches` compares the distance with what it reaches over.
use mathlib.Core.Path.{ap₂}
use Prim.Native.Nat.{ℕ, ◌+◌}
use lib.Dec.{leb}
use Rattle.history_file.specs.File.{trailer_size}
use Rattle.history_fields.proofs.reaches.Goals as goal

pub returns : goal.returns
returns c = ap₂ (λ (n d : ℕ). leb (n + trailer_size) d) c.lead_size-n.ensures.0 c.distance.ensures
