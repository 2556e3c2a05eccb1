use Prim.Native.Nat.{◌≤◌, ◌-◌}
use Rattle.limits.specs.Limits.{sites_most}
use Rattle.network_choice.specs.Choice.{Leading}
use Rattle.network_layout.specs.InWords.{network_in}
use Rattle.network_choice.proofs.chosen.Given as goal

abbrev pub invariant-loop-p : goal.invariant-loop-p
invariant-loop-p l = (l.p ≤ sites_most) × Leading (network_in l.state) l.j l.p l.best
