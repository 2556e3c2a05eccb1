use mathlib.Core.Path.{◌≡◌}
use Prim.Native.Nat.{◌≤◌}
use lib.ListN.{length}
use Rattle.limits.specs.Limits.{ops_most}
use Rattle.record_codes.specs.Codes.{packed_size}
use Rattle.record_packing.proofs.Laws.{Valued}
use Rattle.record_packing.proofs.pack.Given as goal

abbrev pub invariant-loop-i : goal.invariant-loop-i
invariant-loop-i l = (l.i ≤ ops_most) × (length l.w ≡ packed_size) × Valued l.ops l.w l.i
