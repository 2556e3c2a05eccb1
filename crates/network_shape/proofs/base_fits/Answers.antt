-- `base_fits` looks at the values only where the flag is 0.
use Rattle.network_shape.proofs.ShapeLaws.{base_folded, base_asked}
use Rattle.network_shape.proofs.base_fits.Goals as goal

pub returns-then-word-ne0 : goal.returns-then-word-ne0
returns-then-word-ne0 c = let flag = c.word in base_folded c.args.state.now flag.result flag.ensures c.if-word-ne0.true

pub returns : goal.returns
returns c =
    let values = c.words_at in
    let items = c.wide in
    let flag = c.word in
    base_asked c.args.state.now flag.result flag.ensures c.if-word-ne0.false c.requires.few_items items.result items.ensures values.result.now values.ensures c.all_zero.result c.all_zero.ensures
