use mathlib.Core.Path.{◌≡◌}
use mathlib.Core.List.{List}
use Prim.Native.Nat.{ℕ, ◌-◌, ◌≤◌}
use lib.ListN.{length, replicate}
use Rattle.limits.specs.Limits.{sites_most, items_most, records_most}
use Rattle.protocol.specs.Waiting.{into_below}
use Rattle.network_layout.specs.InWords.{network_in}
use Rattle.network_earliest_writes.specs.Noted.{note_messages}
use Rattle.network_earliest_writes.proofs.earliest_writes.Given as goal

-- what is noted of the lines from the sites below p
abbrev pub noted_below : List ℕ → ℕ → ℕ → List ℕ
noted_below state site p = note_messages (network_in state) (replicate items_most records_most) (into_below (network_in state) site p)

abbrev pub invariant-loop-p : goal.invariant-loop-p
invariant-loop-p l = (l.p ≤ sites_most) × (length l.writers ≡ items_most) × (l.writers ≡ noted_below l.state l.site l.p)
