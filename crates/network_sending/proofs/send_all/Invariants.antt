use mathlib.Core.Path.{◌≡◌}
use mathlib.Core.Bool.{true}
use Prim.Native.Nat.{◌≤◌, ◌-◌}
use lib.ListN.{length}
use Rattle.placement.specs.Masks.{bit}
use Rattle.messages.specs.InWords.{message_of}
use Rattle.network_layout.specs.Layout.{state_size}
use Rattle.protocol.specs.Network.{with_lines}
use Rattle.protocol.specs.Steps.{sent_to}
use Rattle.network_layout.specs.InWords.{network_in, in_range}
use Rattle.network_sending.proofs.send_all.Given as goal

abbrev pub invariant-loop-c : goal.invariant-loop-c
invariant-loop-c l = (network_in l.state ≡ with_lines (network_in l.initial.state) (sent_to (bit l.mask) l.i (message_of l.m) l.c (network_in l.initial.state).lines)) × (in_range l.state ≡ true)
