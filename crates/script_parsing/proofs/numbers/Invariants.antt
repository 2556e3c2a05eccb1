use mathlib.Core.Path.{◌≡◌}
use Prim.Native.Nat.{◌+◌, ◌-◌, ◌*◌, ◌≤◌}
use lib.ListN.{length, take}
use Rattle.decimal.specs.Decimal.{natural}
use Rattle.script_notation.specs.Fields.{fields_from}
use Rattle.script_notation.specs.Parse.{all}
use Rattle.script_notation.proofs.Walks.{ahead}
use Rattle.script_parsing.proofs.numbers.Given as goal

abbrev pub invariant-loop-at : goal.invariant-loop-at
invariant-loop-at l = (l.from + 2 * l.count ≤ l.at) × (l.count ≤ 256) × (length l.list ≡ 256) × (all natural (fields_from l.text l.from) ≡ ahead (take l.count l.list) (all natural (fields_from l.text l.at)))

abbrev pub decreases-loop-at : goal.decreases-loop-at
decreases-loop-at l = length l.text + 1 - l.at
