use mathlib.Core.Path.{◌≡◌}
use Prim.Native.Nat.{◌≤◌, ◌-◌}
use Rattle.network_layout.specs.InWords.{network_in}
use Rattle.network_layout.specs.At.{AtState}
use Rattle.network_fold.proofs.FoldLaws.{partly}
use Rattle.network_fold.proofs.fold.Given as goal

abbrev pub invariant-loop-x : goal.invariant-loop-x
invariant-loop-x l = (l.x ≤ l.items) × AtState l.state × (network_in l.state ≡ partly (network_in l.initial.state) l.x)
