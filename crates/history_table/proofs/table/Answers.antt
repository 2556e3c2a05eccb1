-- `table` reads the places one by one.
use mathlib.Core.List.{[], ◌∷◌}
use Rattle.history_table.proofs.table.Goals as goal

pub returns : goal.returns
returns c =
    λ i. c.place.ensures i ∷ (c.place-2.ensures i ∷ (c.place-3.ensures i ∷ (c.place-4.ensures i
    ∷ (c.place-5.ensures i ∷ (c.place-6.ensures i ∷ (c.place-7.ensures i ∷ (c.place-8.ensures i ∷ [])))))))
