-- `stamp` reads eight places.
use mathlib.Core.List.{◌∷◌, []}
use Rattle.history_file.proofs.Held.{stamped}
use Rattle.history_record.proofs.stamp.Goals as goal

pub returns : goal.returns
returns c =
    let A = c.args in
    stamped A.b.now A.n A.epoch _ c.requires.few (λ t. c.tuple_at.ensures t ∷ (c.tuple_at-2.ensures t ∷ (c.tuple_at-3.ensures t ∷ (c.tuple_at-4.ensures t ∷ (c.tuple_at-5.ensures t ∷ (c.tuple_at-6.ensures t ∷ (c.tuple_at-7.ensures t ∷ (c.tuple_at-8.ensures t ∷ []))))))))
