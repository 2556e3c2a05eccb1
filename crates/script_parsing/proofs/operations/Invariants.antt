use mathlib.Core.Path.{◌≡◌}
use mathlib.Core.List.{List}
use Prim.Native.Nat.{ℕ, ◌+◌, ◌-◌}
use lib.ListN.{length, take}
use Rattle.site_operations.specs.Operations.{Op}
use Rattle.script_notation.specs.Fields.{fields_from}
use Rattle.script_notation.specs.Parse.{all, operation, first_operations}
use Rattle.script_notation.proofs.Walks.{ahead}
use Rattle.script_lists.specs.Asked.{ToKeep}
use Rattle.script_lists.specs.Kept.{kept_most}
use Rattle.script_parsing.proofs.operations.Given as goal

pub record Done (text : List ℕ) (from at : ℕ) (kept : List Op) : Type 0 where
  pub done : List Op
  pub ahead_is : all operation (fields_from text from) ≡ ahead done (all operation (fields_from text at))
  pub kept_is : kept ≡ take kept_most done

abbrev pub invariant-loop-at : goal.invariant-loop-at
invariant-loop-at l = Done l.text l.from l.at (first_operations l.count l.kinds l.items l.values) × ToKeep l.count l.kinds l.items l.values

abbrev pub decreases-loop-at : goal.decreases-loop-at
decreases-loop-at l = length l.text + 1 - l.at
