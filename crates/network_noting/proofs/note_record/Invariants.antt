use mathlib.Core.Path.{◌≡◌}
use mathlib.Core.List.{List}
use Prim.Native.Nat.{ℕ, ◌≤◌, ◌-◌}
use lib.ListN.{length, drop}
use Rattle.site_operations.specs.Operations.{Op}
use Rattle.protocol.specs.Network.{nth_record}
use Rattle.network_layout.specs.InWords.{network_in}
use Rattle.network_noting.specs.Noting.{note_ops, IsMet}
use Rattle.network_noting.proofs.note_record.Given as goal

abbrev pub ops_of : List ℕ → ℕ → List Op
ops_of state r = (nth_record (network_in state) r).ops

abbrev pub invariant-loop-a : goal.invariant-loop-a
invariant-loop-a l =
    (l.a ≤ l.n)
    × (length l.table ≡ length l.initial.table)
    × (note_ops l.latest (network_in l.state) l.r l.initial.table (ops_of l.state l.r) ≡ note_ops l.latest (network_in l.state) l.r l.table (drop l.a (ops_of l.state l.r)))
    × IsMet l.state l.r l.latest l.met.other l.met.replaces
