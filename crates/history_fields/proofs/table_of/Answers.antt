-- `table_of` is the part from the file's start, as long as the table.
use mathlib.Core.Path.{◌∙◌}
use Prim.Native.Nat.{◌-◌}
use lib.ListN.{length}
use Rattle.words.specs.Words.{part}
use Rattle.words.proofs.Parts.{lent_part}
use Rattle.history_fields.proofs.table_of.Goals as goal

pub returns : goal.returns
returns c =
    let b = c.args.b.now in
    lent_part b (length b - c.distance.result) c.table_size.result ∙ (λ i. part b (length b - c.distance.ensures i) (c.table_size.ensures.0 i))
