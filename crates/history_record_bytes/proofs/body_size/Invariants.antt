use mathlib.Core.Path.{◌≡◌}
use Prim.Native.Nat.{◌≤◌, ◌-◌, ◌*◌}
use lib.ListN.{length, take}
use Rattle.network_layout.specs.InWords.{network_in}
use Rattle.history_file.specs.Bytes.{joined}
use Rattle.history_file.specs.File.{record_bytes}
use Rattle.history_record_bytes.proofs.body_size.Given as goal

abbrev pub invariant-loop-i : goal.invariant-loop-i
invariant-loop-i l = (l.i ≤ l.n) × (l.sum ≡ length (joined record_bytes (take l.i (network_in l.state).history))) × (l.sum ≤ 136 * l.i)

abbrev pub decreases-loop-i : goal.decreases-loop-i
decreases-loop-i l = l.n - l.i
