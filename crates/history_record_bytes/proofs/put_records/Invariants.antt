use mathlib.Core.Path.{◌≡◌}
use mathlib.Core.List.{◌++◌}
use Prim.Native.Nat.{◌+◌, ◌≤◌, ◌-◌}
use lib.ListN.{length, take, drop}
use Rattle.network_layout.specs.InWords.{network_in}
use Rattle.history_file.specs.Bytes.{joined}
use Rattle.history_file.specs.File.{record_bytes}
use Rattle.history_record_bytes.proofs.put_records.Given as goal

abbrev pub invariant-loop-i : goal.invariant-loop-i
invariant-loop-i l = (l.i ≤ l.n) × (l.at ≡ length (joined record_bytes (take l.i (network_in l.state).history))) × (length l.b ≡ length l.initial.b) × (l.b ≡ joined record_bytes (take l.i (network_in l.state).history) ++ drop l.at l.initial.b)

abbrev pub decreases-loop-i : goal.decreases-loop-i
decreases-loop-i l = l.n - l.i
