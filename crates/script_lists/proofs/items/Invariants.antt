use mathlib.Core.Path.{◌≡◌}
use Prim.Native.Nat.{◌*◌}
use lib.ListN.{length, drop}
use Rattle.script_notation.specs.Parse.{placed, first_items}
use Rattle.script_notation.proofs.Walks.{ahead}
use Rattle.script_lists.proofs.items.Given as goal

abbrev pub invariant-loop-i : goal.invariant-loop-i
invariant-loop-i l = (length l.primaries ≡ 128) × (length l.masks ≡ 128) × (placed l.list ≡ ahead (first_items l.i l.primaries l.masks) (placed (drop (2 * l.i) l.list)))
