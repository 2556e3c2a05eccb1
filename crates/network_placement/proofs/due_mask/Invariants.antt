use mathlib.Core.Bool.{Bool}
use mathlib.Core.List.{List}
use Prim.Native.Nat.{ℕ, ◌-◌}
use Rattle.limits.specs.Limits.{sites_most}
use Rattle.site_operations.specs.Operations.{Op}
use Rattle.site_operations.specs.InWords.{ops_in}
use Rattle.placement_lines.proofs.Gathered.{Gathered}
use Rattle.protocol.specs.Steps.{wanted_at}
use Rattle.network_layout.specs.InWords.{network_in}
use Rattle.network_placement.proofs.due_mask.Given as goal

-- the sites that an operation makes due
abbrev pub wanted : List ℕ → ℕ → Op → Bool
wanted w = λ c. wanted_at (network_in w).items c

abbrev pub invariant-loop-k : goal.invariant-loop-k
invariant-loop-k l = Gathered sites_most (wanted l.state) (ops_in l.n l.ops) l.m l.k
