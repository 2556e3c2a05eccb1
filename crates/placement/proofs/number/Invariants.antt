use Rattle.std.proofs.Common.{◌≡◌, min, drop}
use Rattle.placement.specs.Placement.{items_number}
use Rattle.placement.specs.InWords.{items_in}
use Rattle.limits.specs.Limits.{items_most}
use Rattle.placement.proofs.number.Given as goal

abbrev pub invariant-loop-k : goal.invariant-loop-k
invariant-loop-k l = items_number l.sites (items_in (min l.items items_most) l.w) ≡ items_number l.sites (drop l.k (items_in (min l.items items_most) l.w))
