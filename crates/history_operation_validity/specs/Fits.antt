-- What is asked of the bytes of an operation, with its 00 bytes.
use Rattle.std.specs.Prelude.{Bool, ◌&&◌, List, ℕ}
use Rattle.records.specs.Records.{op_fits}
use Rattle.history_file.specs.Bytes.{padded}
use Rattle.history_file.specs.Reading.{op_read}

-- an operation is of a known kind on one of the items
abbrev pub op_fit : ℕ → List ℕ → Bool
op_fit items u = padded 2 u && op_fits items (op_read u)
