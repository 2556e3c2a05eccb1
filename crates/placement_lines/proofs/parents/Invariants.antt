use mathlib.Core.Bool.{Bool}
use Prim.Native.Nat.{ℕ, ◌-◌, min}
use Rattle.placement.specs.Placement.{Item, gives_line}
use Rattle.placement.specs.InWords.{items_in}
use Rattle.limits.specs.Limits.{items_most, sites_most}
use Rattle.placement_lines.proofs.Gathered.{Gathered}
use Rattle.placement_lines.proofs.parents.Given as goal

-- the sites that an item gives
abbrev pub given : ℕ → ℕ → Item → Bool
given c = λ p. gives_line p c

abbrev pub invariant-loop-k : goal.invariant-loop-k
invariant-loop-k l = Gathered sites_most (given l.c) (items_in (min l.items items_most) l.w) l.m l.k
