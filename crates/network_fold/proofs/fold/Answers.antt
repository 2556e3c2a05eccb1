-- `fold` goes over the items: the base values of those below x are folded.
use mathlib.Core.Path.{◌≡◌, refl, sym, ◌∙◌}
use Prim.Native.Nat.{◌<◌, ◌-◌}
use native.Mathlib.Omega.{arith}
use lib.ListN.{length, get_or}
use Rattle.limits.specs.Limits.{items_most}
use Rattle.network_layout.specs.InWords.{network_in}
use Rattle.network_layout.proofs.Performs.{values_count}
use Rattle.network_fold.proofs.FoldLaws.{all_folded, next_folded, few_items, same_items, still_last}
use Rattle.network_fold.proofs.fold.Goals as goal
use Rattle.network_fold.proofs.fold.Goals.{At-loop-x}

-- ---- at the loop
module _ (h : At-loop-x) where
  -- there is a base value for each of the items that are counted
  items_are : h.item_count-items.result ≡ length (network_in h.args.state.now).base.values
  items_are = h.item_count-items.ensures ∙ sym (values_count h.args.state.now h.requires.at.sized h.requires.at.ranged)

  -- and an entry in the table
  in_table : h.loop-x.x < h.item_count-items.result → h.loop-x.x < items_most
  in_table low = omega (arith, h.item_count-items.ensures, few_items h.args.state.now h.requires.at)

pub last_writes-table-requires : goal.last_writes-table-requires
last_writes-table-requires c = c.requires

pub item_count-items-requires : goal.item_count-items-requires
item_count-items-requires c = c.requires.at.sized

pub loop-x-init : goal.loop-x-init
loop-x-init c = (omega arith, c.requires.at, refl)

pub bounds-table-x : goal.bounds-table-x
bounds-table-x c = omega (arith, in_table (goal.at.bounds-table-x c).At-loop-x c.loop-x-test.true)

pub fold_item-requires : goal.fold_item-requires
fold_item-requires c =
    let w = c.args.state.now in
    let x = c.loop-x.x in
    let v = c.loop-x.state in
    let same = c.loop-x.invariant.2 in
    let table = c.last_writes-table.result in
    record {
      at = c.loop-x.invariant.1;
      item = record { sized = c.loop-x.invariant.1.sized; there = omega (arith, same_items w v x same, c.item_count-items.ensures, c.loop-x-test.true) };
      last = (still_last w v x same x (get_or table x 0) (c.last_writes-table.ensures.each x (in_table (goal.at.fold_item-requires c).At-loop-x c.loop-x-test.true)));
    }

pub loop-x-preserved : goal.loop-x-preserved
loop-x-preserved c =
    let n = network_in c.args.state.now in
    let there : c.loop-x.x < length n.base.values = omega (arith, items_are (goal.at.loop-x-preserved c).At-loop-x, c.loop-x-test.true) in (
      omega arith,
      record { sized = c.fold_item.auto.state ∙ c.loop-x.invariant.1.sized; ranged = c.fold_item.ensures.ranged },
      c.fold_item.ensures.meant ∙ next_folded n c.loop-x.x there (network_in c.loop-x.state) c.loop-x.invariant.2,
    )

pub returns : goal.returns
returns c =
    let n = network_in c.args.state.now in
    let all : c.loop-x.x ≡ length n.base.values = omega (arith, items_are (goal.at.returns c).At-loop-x, c.loop-x-test.false, c.loop-x.invariant.0) in
    record { meant = c.loop-x.invariant.2 ∙ all_folded n c.loop-x.x all; ranged = c.loop-x.invariant.1.ranged }
