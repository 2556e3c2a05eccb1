-- `put_operations_of` writes the words that the record answers.
use mathlib.Core.Path.{ap, ◌∙◌}
use Prim.Native.Nat.{ℕ}
use Rattle.site_operations.specs.InWords.{ops_in}
use Rattle.history_file.specs.Bytes.{joined}
use Rattle.history_file.specs.File.{op_bytes}
use Rattle.history_record_bytes.proofs.put_operations_of.Goals as goal

pub returns : goal.returns
returns c =
    c.put_operations.ensures ∙ ap (λ (k : ℕ). joined op_bytes (ops_in k c.record_ops-ops.result)) c.requires.all ∙ ap (joined op_bytes) c.record_ops-ops.ensures.ops_are
