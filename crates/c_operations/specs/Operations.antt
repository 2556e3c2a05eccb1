-- An operation of a commit in three words.
use Rattle.std.specs.Prelude.{List, ℕ, min, get_or}
use Rattle.std.proofs.Common.{to_z}
use Rattle.std.specs.Int.{w32}
use Rattle.network_layout.specs.declared.Operation.{Operation}

-- a kind above 255 counts as 255, which is unknown as well
abbrev pub operation_of : List ℕ → Operation
operation_of w = record { kind = min (get_or w 0 0) 255; item = get_or w 1 0; value = to_z w32 (get_or w 2 0) }
