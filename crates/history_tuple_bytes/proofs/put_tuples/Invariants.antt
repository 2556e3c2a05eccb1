use mathlib.Core.Path.{◌≡◌}
use mathlib.Core.List.{◌++◌}
use Prim.Native.Nat.{◌≤◌, ◌-◌, ◌*◌}
use lib.ListN.{length, take, drop}
use Rattle.timestamp_words.specs.InWords.{stamp_in}
use Rattle.history_file.specs.Bytes.{unit_size, joined}
use Rattle.history_file.specs.File.{pair_bytes}
use Rattle.history_tuple_bytes.proofs.put_tuples.Given as goal

abbrev pub invariant-loop-i : goal.invariant-loop-i
invariant-loop-i l = (l.i ≤ l.n) × (length l.b ≡ length l.initial.b) × (l.b ≡ joined pair_bytes (take l.i (stamp_in l.w).tuples) ++ drop (l.i * unit_size) l.initial.b)

abbrev pub decreases-loop-i : goal.decreases-loop-i
decreases-loop-i l = l.n - l.i
