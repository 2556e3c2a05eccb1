use mathlib.Core.Bool.{Bool}
use Prim.Native.Nat.{ℕ, ◌-◌, ◌*◌, ◌/◌, ◌%◌, min}
use Rattle.placement.specs.Placement.{Item, gives_line}
use Rattle.placement.specs.InWords.{items_in}
use Rattle.limits.specs.Limits.{items_most, sites_most}
use Rattle.placement_lines.proofs.Gathered.{Gathered}
use Rattle.placement_lines.proofs.lines.Given as goal

abbrev pub most : ℕ
most = sites_most * sites_most

-- the lines that an item gives
abbrev pub given : ℕ → Item → Bool
given k = gives_line (k / sites_most) (k % sites_most)

abbrev pub invariant-loop-k : goal.invariant-loop-k
invariant-loop-k l = Gathered most given (items_in (min l.items items_most) l.w) l.m l.k
