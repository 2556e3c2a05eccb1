-- `history_fits` tests the records made.
use mathlib.Core.Path.{ap, ◌∙◌}
use native.Mathlib.Omega.{arith}
use lib.ListN.{length}
use Rattle.timestamp_order.specs.Order.{rank}
use Rattle.network_layout.proofs.Assembled.{kept_size}
use Rattle.network_shape.proofs.ShapeLaws.{history_asked}
use Rattle.network_shape.proofs.history_fits.Goals as goal

pub records_shaped-requires : goal.records_shaped-requires
records_shaped-requires c =
    let lent = c.words_at in
    record { sized = ap length lent.ensures ∙ kept_size c.args.state.now c.requires.sized; few = omega (arith, c.wide-made.ensures, c.requires.few_records) }

pub returns : goal.returns
returns c =
    let lent = c.words_at in
    let A = c.args in
    history_asked A.state.now (rank A.places) c.wide-made.result c.wide-made.ensures lent.result.now lent.ensures c.records_shaped.result c.records_shaped.ensures
