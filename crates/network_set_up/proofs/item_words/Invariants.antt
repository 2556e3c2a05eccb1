use mathlib.Core.Path.{◌≡◌}
use Prim.Native.Nat.{◌≤◌, ◌-◌}
use lib.ListN.{length, take}
use Rattle.placement.specs.InWords.{items_in}
use Rattle.protocol.specs.Steps.{items_of}
use Rattle.network_set_up.proofs.item_words.Given as goal

abbrev pub invariant-loop-k : goal.invariant-loop-k
invariant-loop-k l = (l.k ≤ length l.primaries) × (items_in l.k l.out ≡ items_of (take l.k l.primaries) (take l.k l.masks))

abbrev pub decreases-loop-k : goal.decreases-loop-k
decreases-loop-k l = length l.primaries - l.k
