use mathlib.Core.Path.{◌≡◌}
use Prim.Native.Nat.{◌+◌, ◌-◌}
use lib.ListN.{length, drop}
use Rattle.network_layout.specs.InWords.{shaped}
use Rattle.script_notation.specs.Fields.{position}
use Rattle.console_notation.specs.Lines.{newline}
use Rattle.console_lines.specs.Promises.{Walked}
use Rattle.console_lines.proofs.lines.Given as goal

abbrev pub invariant-loop-from : goal.invariant-loop-from
invariant-loop-from l = Walked l.block l.initial.state l.state l.initial.out l.out l.at l.from l.filled × (l.end ≡ l.from + position newline (drop l.from l.block)) × (length l.out ≡ length l.initial.out) × (l.known ≡ shaped l.state)

abbrev pub decreases-loop-from : goal.decreases-loop-from
decreases-loop-from l = length l.block - l.from
