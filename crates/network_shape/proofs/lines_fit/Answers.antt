-- `lines_fit` tests every line against the placement and the history.
use mathlib.Core.Path.{ap, ◌∙◌}
use lib.ListN.{length}
use Rattle.network_layout.proofs.Assembled.{lined_size, kept_size}
use Rattle.network_shape.specs.Tested.{placed_in}
use Rattle.network_shape.proofs.ShapeLaws.{lines_asked}
use Rattle.network_shape.proofs.lines_fit.Goals as goal

pub lines_shaped-requires : goal.lines_shaped-requires
lines_shaped-requires c =
    let kept = c.words_at-2 in
    let lined = c.words_at in
    let w = c.args.state.now in
    record {
      sized = ap length lined.ensures ∙ lined_size w c.requires.counted.sized;
      history = record { sized = ap length kept.ensures ∙ kept_size w c.requires.counted.sized; few = c.requires.counted.few_records };
    }

pub returns : goal.returns
returns c =
    let kept = c.words_at-2 in
    let lined = c.words_at in
    let w = c.args.state.now in
    lines_asked w lined.result.now lined.ensures kept.result.now kept.ensures c.lines_shaped.result (c.lines_shaped.ensures (placed_in w) c.requires.given_are c.requires.places_are)
