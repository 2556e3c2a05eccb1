-- `reply` feeds what is left of the block until all of it is used: all before is answered. What is left falls, since each turn finds room.
use mathlib.Core.Path.{◌≡◌}
use Prim.Native.Nat.{◌-◌}
use lib.ListN.{length}
use Rattle.network_layout.specs.InWords.{shaped}
use Rattle.console_held.specs.Held.{held_of}
use Rattle.console.proofs.Runs.{Reached}
use Rattle.console.proofs.reply.Given as goal

abbrev pub invariant-loop-state : goal.invariant-loop-state
invariant-loop-state g l = Reached l.fn.block (held_of l.fn.held) l.fn.state l.state l.used l.line × (l.known ≡ shaped l.state)

abbrev pub decreases-loop-state : goal.decreases-loop-state
decreases-loop-state g l = length l.fn.block - l.used
