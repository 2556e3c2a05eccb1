-- The operations that are kept of a line: a commit takes eight at most, so nine stand for more.
use Rattle.std.specs.Prelude.{List, ℕ, take}
use Rattle.std.proofs.Math.Option.{Option, some}
use Rattle.site_operations.specs.Operations.{Op}
use Rattle.network_layout.specs.declared.Operation.{Operation}

abbrev pub kept_most : ℕ
kept_most = 9

abbrev pub kept_of : List Op → Option (List Op)
kept_of os = some (take kept_most os)

-- an operation of the code
abbrev pub op_of : Operation → Op
op_of o = record { kind = o.kind; item = o.item; value = o.value }
