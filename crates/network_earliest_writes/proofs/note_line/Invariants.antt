use mathlib.Core.Path.{◌≡◌}
use Prim.Native.Nat.{◌≤◌, ◌-◌}
use lib.ListN.{length, drop}
use Rattle.network_layout.specs.InWords.{network_in}
use Rattle.network_earliest_writes.specs.Noted.{note_messages, messages_on}
use Rattle.network_earliest_writes.proofs.note_line.Given as goal

abbrev pub invariant-loop-i : goal.invariant-loop-i
invariant-loop-i l =
    (l.i ≤ l.n)
    × (length l.writers ≡ length l.initial.writers)
    × (note_messages (network_in l.state) l.initial.writers (messages_on l.state l.k) ≡ note_messages (network_in l.state) l.writers (drop l.i (messages_on l.state l.k)))
