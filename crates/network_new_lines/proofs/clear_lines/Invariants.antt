use mathlib.Core.Path.{◌≡◌}
use Prim.Native.Nat.{◌≤◌, ◌-◌}
use lib.ListN.{length}
use Rattle.protocol.specs.Network.{lines_most}
use Rattle.network_layout.specs.Layout.{lines_size}
use Rattle.network_new_lines.specs.Cleared.{Cleared}
use Rattle.network_new_lines.proofs.clear_lines.Given as goal

abbrev pub invariant-loop-k : goal.invariant-loop-k
invariant-loop-k l = Cleared l.w l.k
