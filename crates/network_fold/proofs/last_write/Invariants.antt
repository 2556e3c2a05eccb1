use mathlib.Core.Path.{◌≡◌}
use Prim.Native.Nat.{◌≤◌, ◌-◌}
use lib.IntN.{pos}
use lib.ListN.{take}
use mir.Val.{to_z}
use mir.Syntax.{w32}
use Rattle.records.specs.InWords.{record_in}
use Rattle.network_fold.proofs.FoldLaws.{last_or}
use Rattle.network_fold.proofs.last_write.Given as goal

abbrev pub invariant-loop-i : goal.invariant-loop-i
invariant-loop-i l = (l.i ≤ l.n) × (to_z w32 l.value ≡ last_or l.item (take l.i (record_in l.w).ops) (pos 0))
