-- `place_at` reads the site, and its place in the table.
use mathlib.Core.Path.{ap, ◌∙◌}
use Prim.Native.Nat.{ℕ}
use Rattle.timestamp_order.specs.Order.{rank}
use Rattle.history_tuple_validity.proofs.place_at.Goals as goal

pub returns : goal.returns
returns c =
    let A = c.args in
    c.place.ensures ∙ ap {B = ℕ} (rank A.places) c.field.ensures
