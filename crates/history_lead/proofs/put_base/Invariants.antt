use mathlib.Core.Path.{◌≡◌}
use mathlib.Core.List.{List, ◌++◌}
use Prim.Native.Nat.{ℕ, ◌+◌, ◌-◌, ◌*◌, ◌≤◌}
use lib.IntN.{ℤ}
use lib.ListN.{length, take, drop}
use Rattle.network_layout.specs.InWords.{network_in}
use Rattle.history_file.specs.Bytes.{value_size, value_bytes, joined}
use Rattle.history_lead.proofs.put_base.Given as goal

-- the values that are written
abbrev pub values : List ℕ → ℕ → List ℤ
values w n = take n (network_in w).base.values

abbrev pub invariant-loop-x : goal.invariant-loop-x
invariant-loop-x l = (l.x ≤ l.n) × (length l.b ≡ length l.initial.b) × (l.b ≡ joined value_bytes (take l.x (values l.state l.n)) ++ drop (l.x * value_size) l.initial.b)

abbrev pub decreases-loop-x : goal.decreases-loop-x
decreases-loop-x l = l.n - l.x
