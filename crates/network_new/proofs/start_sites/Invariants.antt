use mathlib.Core.Path.{◌≡◌}
use Prim.Native.Nat.{◌≤◌, ◌-◌}
use lib.ListN.{length}
use Rattle.network_layout.specs.Layout.{sites_size}
use Rattle.network_new.specs.New.{Started}
use Rattle.network_new.proofs.start_sites.Given as goal

abbrev pub invariant-loop-i : goal.invariant-loop-i
invariant-loop-i l = Started l.w l.i
