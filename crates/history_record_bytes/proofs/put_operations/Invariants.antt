use mathlib.Core.Path.{◌≡◌}
use mathlib.Core.List.{◌++◌}
use Prim.Native.Nat.{◌+◌, ◌≤◌, ◌-◌, ◌*◌}
use lib.ListN.{length, take, drop}
use Rattle.site_operations.specs.InWords.{ops_in}
use Rattle.history_file.specs.Bytes.{unit_size, joined}
use Rattle.history_file.specs.File.{op_bytes}
use Rattle.history_record_bytes.proofs.put_operations.Given as goal

abbrev pub invariant-loop-i : goal.invariant-loop-i
invariant-loop-i l = (l.i ≤ l.n) × (length l.b ≡ length l.initial.b) × (l.b ≡ joined op_bytes (take l.i (ops_in l.n l.ops)) ++ drop (l.i * unit_size) l.initial.b)

abbrev pub decreases-loop-i : goal.decreases-loop-i
decreases-loop-i l = l.n - l.i
