-- `base_of` is the part behind the table, as long as the base values.
use mathlib.Core.Path.{◌∙◌}
use Prim.Native.Nat.{◌+◌, ◌-◌}
use lib.ListN.{length}
use Rattle.words.specs.Words.{part}
use Rattle.words.proofs.Parts.{lent_part}
use Rattle.history_fields.proofs.base_of.Goals as goal

pub returns : goal.returns
returns c =
    let b = c.args.b.now in
    lent_part b (length b - c.distance.result + c.table_size-t.result) c.base_size.result
    ∙ (λ i. part b (length b - c.distance.ensures i + c.table_size-t.ensures.0 i) (c.base_size.ensures.0 i))
