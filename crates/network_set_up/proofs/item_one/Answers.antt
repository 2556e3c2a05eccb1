-- `item_one` lays the two words of an item after those before it.
use native.Mathlib.Omega.{arith}
use Rattle.network_set_up.proofs.ItemWords.{item_next}
use Rattle.network_set_up.proofs.item_one.Goals as goal

pub returns : goal.returns
returns c =
    let A = c.args in
    item_next A.out.now c.lay.new.w A.k A.primary A.mask (omega arith) c.requires c.lay.ensures
