use mathlib.Core.Path.{◌≡◌}
use Prim.Native.Nat.{◌-◌, max}
use lib.ListN.{drop}
use Rattle.protocol.specs.Network.{site_stamps}
use Rattle.protocol.specs.Round.{greatest_epoch}
use Rattle.network_layout.specs.InWords.{network_in}
use Rattle.network_round_causes.proofs.greatest_epoch.Given as goal

abbrev pub invariant-loop-i : goal.invariant-loop-i
invariant-loop-i l = greatest_epoch (site_stamps (network_in l.state)) ≡ max l.most (greatest_epoch (drop l.i (site_stamps (network_in l.state))))

abbrev pub decreases-loop-i : goal.decreases-loop-i
decreases-loop-i l = l.sites - l.i
