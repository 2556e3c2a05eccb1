-- `item_words` lays one item after another: the first k are those of the first k primaries and masks.
use mathlib.Core.Path.{refl}
use Prim.Native.Nat.{◌-◌}
use native.Mathlib.Omega.{arith}
use Rattle.words.specs.Words.{chunks}
use Rattle.network_set_up.proofs.ItemWords.{items_next, items_all}
use Rattle.network_set_up.proofs.item_words.Goals as goal

pub loop-k-init : goal.loop-k-init
unfolding chunks
loop-k-init c = (omega arith, refl)

pub loop-k-preserved : goal.loop-k-preserved
loop-k-preserved c =
    let A = c.args in
    (omega arith, items_next A.primaries.now A.masks.now c.loop-k.out c.loop-k.k c.requires.same c.loop-k.invariant.1 c.loop-k-test.true c.item_one.new.out c.wide8.result c.wide8.ensures c.item_one.ensures)

pub returns : goal.returns
returns c =
    items_all c.args.primaries.now c.args.masks.now c.loop-k.out c.loop-k.k c.requires.same c.loop-k.invariant.1 (omega arith)
