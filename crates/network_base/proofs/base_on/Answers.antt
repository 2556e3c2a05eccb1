-- `base_on` answers the flag, and the values as they are in the words.
use Rattle.network_base.proofs.BaseLaws.{values_there, base_found}
use Rattle.network_base.proofs.base_on.Goals as goal

pub values-requires : goal.values-requires
values-requires c =
    values_there c.args.state.now c.requires _ c.item_count-count.ensures

pub returns : goal.returns
returns c =
    let flag = c.word in
    base_found c.args.state.now c.requires _ c.item_count-count.ensures flag.result flag.ensures c.values.result c.values.ensures
