use mathlib.Core.Path.{◌≡◌}
use mathlib.Core.List.{List}
use Prim.Native.Nat.{ℕ, ◌≤◌, ◌-◌}
use Rattle.placement.specs.Placement.{Item, LineBits}
use Rattle.placement.specs.Places.{places_of}
use Rattle.records.specs.Records.{Record}
use Rattle.lines.specs.InWords.{line_size}
use Rattle.protocol.specs.Network.{lines_most}
use Rattle.network_line_shape.specs.LineTests.{history_in, line_test}
use Rattle.network_line_shape.proofs.Walk.{Passed}
use Rattle.network_shape.proofs.lines_shaped.Given as goal

-- the lines before number k fit, for every placement that gives these lines and places
abbrev pub PassedTo : ℕ → List ℕ → List Record → List ℕ → ℕ → Type 0
PassedTo given places h w k = (xs : List Item) → LineBits xs given → places ≡ places_of xs → Passed (line_test xs h) line_size lines_most w k

abbrev pub invariant-loop-k : goal.invariant-loop-k
invariant-loop-k l = (l.k ≤ lines_most) × PassedTo l.given l.places (history_in l.kept l.made) l.w l.k

abbrev pub decreases-loop-k : goal.decreases-loop-k
decreases-loop-k l = lines_most - l.k
